-- The least and the greatest value of a domain that has one.
use Rattle.std.proofs.Common.{◌≡◌, ℕ, zero, suc, ◌<◌, Bool, true, false, cond, ℤ, pos, negsuc, ◌+ℤ◌, ◌-ℤ◌, ◌≤ℤ◌, ◌<ℤ◌, sym, ap, subst, ⊎_elim, arith}
use Rattle.std.proofs.lemmas.Int.{ints, by_lt_z}
use Rattle.std.proofs.lemmas.Bool.{cases_Bool, both_ways, cond-true, cond-false}
use Rattle.tables.specs.Values.{is_value, value_at}
use Rattle.tables.specs.Tables.{Domain, count, size_of, Least, Greatest}
use Rattle.tables.proofs.Places.{value_low, value_high, is_value_at}
use Rattle.filters.specs.Ends.{first_from, last_from, least, greatest}

antisym : (a b : ℤ) → a ≤ℤ b → b ≤ℤ a → a ≡ b
antisym a b p q = omega (arith, ints)

-- a member is not a number that is none
apart : (d : Domain) (u v : ℤ) → d u ≡ false → d v ≡ true → u ≡ v → ⊥
apart d u v none some e = both_ways (d u) none (subst (λ w. d w ≡ true) (sym e) some)

-- so a member beyond it lies one further
above : (d : Domain) (u v : ℤ) → d u ≡ false → d v ≡ true → u ≤ℤ v → (u +ℤ pos 1) ≤ℤ v
above d u v none some h = by_lt_z u v (λ less. omega (arith, ints)) (λ more. absurd (apart d u v none some (antisym u v h more)))

below : (d : Domain) (u v : ℤ) → d u ≡ false → d v ≡ true → v ≤ℤ u → v ≤ℤ (u -ℤ pos 1)
below d u v none some h = by_lt_z v u (λ less. omega (arith, ints)) (λ more. absurd (apart d u v none some (antisym u v more h)))

-- a number that is none is passed over
least_past : (d : Domain) (from v : ℤ) → d from ≡ false → Least d (from +ℤ pos 1) v → Least d from v
least_past d from v none rest = record {
  reached = let r = rest.reached in omega (arith, ints);
  member = rest.member;
  least = λ u l m. rest.least u (above d from u none m l) m;
}

greatest_past : (d : Domain) (from v : ℤ) → d from ≡ false → Greatest d (from -ℤ pos 1) v → Greatest d from v
greatest_past d from v none rest = record {
  reached = let r = rest.reached in omega (arith, ints);
  member = rest.member;
  greatest = λ u l m. rest.greatest u (below d from u none m l) m;
}

first_finds : (d : Domain) (k : ℕ) (from w : ℤ) → from ≤ℤ w → w <ℤ (from +ℤ pos k) → d w ≡ true → Least d from (first_from d k from)
first_finds d zero from w g h t = absurd (omega (arith, ints))
first_finds d (suc k) from w g h t =
    ⊎_elim
    (λ here. subst (λ v. Least d from v) (sym (cond-true (d from) _ _ here)) record { reached = omega (arith, ints); member = here; least = λ u l m. l })
    (λ past. subst (λ v. Least d from v) (sym (cond-false (d from) _ _ past)) (least_past d from _ past (first_finds d k (from +ℤ pos 1) w (above d from w past t g) (omega (arith, ints)) t)))
    (cases_Bool (d from))

last_finds : (d : Domain) (k : ℕ) (from w : ℤ) → w ≤ℤ from → (from -ℤ pos k) <ℤ w → d w ≡ true → Greatest d from (last_from d k from)
last_finds d zero from w g h t = absurd (omega (arith, ints))
last_finds d (suc k) from w g h t =
    ⊎_elim
    (λ here. subst (λ v. Greatest d from v) (sym (cond-true (d from) _ _ here)) record { reached = omega (arith, ints); member = here; greatest = λ u l m. l })
    (λ past. subst (λ v. Greatest d from v) (sym (cond-false (d from) _ _ past)) (greatest_past d from _ past (last_finds d k (from -ℤ pos 1) w (below d from w past t g) (omega (arith, ints)) t)))
    (cases_Bool (d from))

-- of a domain that has a value the least is its least number from -512 on
pub least_of : (d : Domain) (w : ℤ) → is_value w ≡ true → d w ≡ true → Least d (negsuc 511) (least d)
unfolding least
least_of d w v t = let l = value_low w v in let h = value_high w v in first_finds d 1024 (negsuc 511) w l (omega (arith, ints)) t

pub greatest_of : (d : Domain) (w : ℤ) → is_value w ≡ true → d w ≡ true → Greatest d (pos 511) (greatest d)
unfolding greatest
greatest_of d w v t = let l = value_low w v in let h = value_high w v in last_finds d 1024 (pos 511) w h (omega (arith, ints)) t

-- there is one such number only
pub least_is : (d : Domain) (v : ℤ) → is_value v ≡ true → Least d (negsuc 511) v → v ≡ least d
least_is d v h l = let m = least_of d v h l.member in antisym v (least d) (l.least (least d) m.reached m.member) (m.least v l.reached l.member)

pub greatest_is : (d : Domain) (v : ℤ) → is_value v ≡ true → Greatest d (pos 511) v → v ≡ greatest d
greatest_is d v h l = let m = greatest_of d v h l.member in antisym v (greatest d) (m.greatest v l.reached l.member) (l.greatest (greatest d) m.reached m.member)

-- a smaller domain has no smaller least value, and no greater greatest one
pub least_mono : (d e : Domain) (w : ℤ) → is_value w ≡ true → d w ≡ true → ((v : ℤ) → d v ≡ true → is_value v ≡ true) → ((v : ℤ) → d v ≡ true → e v ≡ true) → least e ≤ℤ least d
least_mono d e w h t values inside =
    let m = least_of d w h t in
    let v = values (least d) m.member in
    (least_of e (least d) v (inside (least d) m.member)).least (least d) (value_low (least d) v) (inside (least d) m.member)

pub greatest_mono : (d e : Domain) (w : ℤ) → is_value w ≡ true → d w ≡ true → ((v : ℤ) → d v ≡ true → is_value v ≡ true) → ((v : ℤ) → d v ≡ true → e v ≡ true) → greatest d ≤ℤ greatest e
greatest_mono d e w h t values inside =
    let m = greatest_of d w h t in
    let v = values (greatest d) m.member in
    (greatest_of e (greatest d) v (inside (greatest d) m.member)).greatest (greatest d) (value_high (greatest d) v) (inside (greatest d) m.member)

-- each value lies between the ends
pub between : (d : Domain) (w : ℤ) → is_value w ≡ true → d w ≡ true → (least d ≤ℤ w) × (w ≤ℤ greatest d)
between d w h t = ((least_of d w h t).least w (value_low w h) t, (greatest_of d w h t).greatest w (value_high w h) t)

-- ---- a domain that is not empty

count_some : (p : ℕ → Bool) (n : ℕ) → 0 < count p n → (k : ℕ) × (k < n) × (p k ≡ true)
count_some p zero h = absurd (omega arith)
count_some p (suc n) h =
    ⊎_elim
    (λ here. (n, omega arith, here))
    (λ past. let s = count_some p n (let z : ◌≡◌ {A = ℕ} (cond (p n) 1 0) 0 = ap (λ (b : Bool). cond b 1 0) past in omega arith) in (s.0, (let l = s.1 in omega arith), s.2))
    (cases_Bool (p n))

-- it has a value
pub member_of : (d : Domain) → 0 < size_of d → (w : ℤ) × (is_value w ≡ true) × (d w ≡ true)
unfolding size_of
member_of d h = let s = count_some (λ p. d (value_at p)) 1024 h in (value_at s.0, is_value_at s.0 s.1, s.2)
