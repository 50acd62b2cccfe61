-- How many runs a settle makes.
use Rattle.std.proofs.Common.{◌≡◌, ℕ, zero, suc, ◌+◌, ◌-◌, ◌*◌, ◌<◌, ◌≤◌, Bool, true, false, cond, not, ◌&&◌, ◌||◌, List, [], ◌∷◌, length, sym, refl, ap, ◌∙◌, subst, ap₂, ⊎_elim, add-mul, arith}
use Rattle.std.proofs.lemmas.Nat.{mul-le}
use Rattle.std.proofs.lemmas.List.{length-append}
use Rattle.std.proofs.lemmas.Bool.{both_ways, cases_lt, and_parts, ltb-true, le-ltb, le-leb}
use Rattle.tables.specs.Tables.{Table, size_of, Shaped, Inside, count}
use Rattle.tables.proofs.Counts.{count_mono, size_none}
use Rattle.tables.proofs.Keeps.{nothing_outside}
use Rattle.rules.specs.Rules.{Rule}
use Rattle.rules.specs.Banks.{called, some, woken, count_of}
use Rattle.rules.proofs.Numbers.{called_past}
use Rattle.rules.proofs.Voids.{size_mono, inside_shaped}
use Rattle.rules.specs.Sets.{select}
use Rattle.sessions.specs.Agendas.{member, joined}
use Rattle.sessions.specs.Steps.{smaller, woke, Outcome, settled, failed, Settles, rests, fails, runs}
use Rattle.sessions.specs.Numbers.{total}
use Rattle.sessions.specs.Promises.{watchers, lost}
use Rattle.sessions.proofs.Counting.{total_ext}
use Rattle.sessions.proofs.Settling.{Fair, settles_inside}

-- the two ends differ
pub failed_settled : (i : ℕ) → failed i ≡ settled → ⊥
failed_settled i e = both_ways true (ap is e) refl
  where
    is : Outcome → Bool
    is settled = false
    is (failed j) = true

chain : {a b c : ℕ} → a ≤ b → b ≤ c → a ≤ c
chain p q = omega arith

-- ---- counts and sums

select_length : (p : ℕ → Bool) (n : ℕ) → length (select p n) ≡ count p n
select_length p zero = refl
select_length p (suc n) = length-append (select p n) _ ∙ ap₂ (λ a b. a + b) (select_length p n) (one (p n)) ∙ (let e : count p n + cond (p n) 1 0 ≡ cond (p n) 1 0 + count p n = omega arith in e)
  where
    one : (b : Bool) → length (cond b (n ∷ []) []) ≡ cond b 1 0
    one true = refl
    one false = refl

or_le : (a b : Bool) → cond (a || b) 1 0 ≤ cond a 1 0 + cond b 1 0
or_le true b = omega arith
or_le false b = omega arith

-- either of two tests passes at most as often as both together
count_or : (p q : ℕ → Bool) (n : ℕ) → count (λ i. p i || q i) n ≤ count p n + count q n
count_or p q zero = omega arith
count_or p q (suc n) = let a = or_le (p n) (q n) in let b = count_or p q n in omega arith

count_cut : (p : ℕ → Bool) (n m : ℕ) → n ≤ m → ((k : ℕ) → n ≤ k → p k ≡ false) → count p m ≡ count p n
count_cut p n zero h f = let e : 0 ≡ n = omega arith in ap (count p) e
count_cut p n (suc m) h f =
    ⊎_elim
    (λ less. let z : ◌≡◌ {A = ℕ} (cond (p m) 1 0) 0 = ap (λ (b : Bool). cond b 1 0) (f m (omega arith)) in let r = count_cut p n m (omega arith) f in (let e : cond (p m) 1 0 + count p m ≡ count p n = omega arith in e))
    (λ more. let e : suc m ≡ n = omega arith in ap (count p) e)
    (cases_lt n (suc m))

total_cut : (f : ℕ → ℕ) (n m : ℕ) → n ≤ m → ((k : ℕ) → n ≤ k → f k ≡ 0) → total f m ≡ total f n
total_cut f n zero h g = let e : 0 ≡ n = omega arith in ap (total f) e
total_cut f n (suc m) h g =
    ⊎_elim
    (λ less. let z = g m (omega arith) in let r = total_cut f n m (omega arith) g in (let e : f m + total f m ≡ total f n = omega arith in e))
    (λ more. let e : suc m ≡ n = omega arith in ap (total f) e)
    (cases_lt n (suc m))

total_mono : (f g : ℕ → ℕ) (n : ℕ) → ((k : ℕ) → k < n → f k ≤ g k) → total f n ≤ total g n
total_mono f g zero h = omega arith
total_mono f g (suc n) h = let a = h n (omega arith) in let b = total_mono f g n (λ k l. h k (omega arith)) in omega arith

total_add : (f g : ℕ → ℕ) (n : ℕ) → total f n + total g n ≡ total (λ k. f k + g k) n
total_add f g zero = omega arith
total_add f g (suc n) = let b = total_add f g n in omega arith

-- ---- who is woken

-- by the variables below m, among the rules below r
woken_count : (w : ℕ → ℕ → Bool) (s : ℕ → Bool) (r m : ℕ) → count (λ i. some (λ x. s x && w i x) m) r ≤ total (λ x. cond (s x) (count (λ i. w i x) r) 0) m
woken_count w s r zero = none r
  where
    none : (r : ℕ) → count (λ i. false) r ≤ 0
    none zero = omega arith
    none (suc r) = let m = none r in omega arith
woken_count w s r (suc m) =
    let a = count_or (λ i. s m && w i m) (λ i. some (λ x. s x && w i x) m) r in
    let b = woken_count w s r m in
    let c = here (s m) r in
    omega arith
  where
    here : (b : Bool) (r : ℕ) → count (λ i. b && w i m) r ≤ cond b (count (λ i. w i m) r) 0
    here true r = omega arith
    here false zero = omega arith
    here false (suc r) = let m = here false r in omega arith

times : (d w : ℕ) → 1 ≤ d → w ≤ d * w
times d w h = let m = mul-le 1 w d w h (omega arith) in omega arith

-- a variable that is not there does not get smaller
pub none_outside : (n : ℕ) (t u : Table) → Shaped n t → (k : ℕ) → n ≤ k → smaller t u k ≡ false
none_outside n t u shaped k h = let z = size_none (t k) (λ v _. nothing_outside n t shaped k h v) in le-ltb _ _ (omega arith)

module _ (n : ℕ) (rules : List Rule) (fair : Fair n rules) where
  -- a rule past the last watches nothing
  idle : (x i : ℕ) → length rules ≤ i → (called rules i).watches x ≡ false
  idle x i h =
      let c : count_of rules ≤ i = subst (λ (b : Bool). cond b (length rules) 257 ≤ i) (sym (le-leb (length rules) 256 fair.short)) h in
      ap (λ (r : Rule). r.watches x) (called_past rules i c)

  -- for each variable that got smaller, those that watch it
  woken_few : (t u : Table) → Shaped n t → Inside u t → count (woken rules (smaller t u)) 256 ≤ lost n rules t u
  unfolding woken
  woken_few t u shaped inside =
      let s = smaller t u in
      let a = woken_count (λ i x. (called rules i).watches x) s 256 256 in
      let b = total_cut (λ x. cond (s x) (count (λ i. (called rules i).watches x) 256) 0) n 256 fair.few (λ k h.
      ap (λ (q : Bool). cond q (count (λ i. (called rules i).watches k) 256) 0) (none_outside n t u shaped k h)) in
      let c = total_mono (λ x. cond (s x) (count (λ i. (called rules i).watches x) 256) 0) (λ x. (size_of (t x) - size_of (u x)) * watchers rules x) n (λ x l. each x (s x) refl) in
      chain a (subst (λ m. m ≤ lost n rules t u) (sym b) c)
    where
      each : (x : ℕ) (b : Bool) → smaller t u x ≡ b → cond b (count (λ i. (called rules i).watches x) 256) 0 ≤ (size_of (t x) - size_of (u x)) * watchers rules x
      each x true e =
          let l = ltb-true _ _ e in
          subst (λ m. m ≤ (size_of (t x) - size_of (u x)) * watchers rules x) (sym (count_cut (λ i. (called rules i).watches x) (length rules) 256 fair.short (idle x)))
          (times (size_of (t x) - size_of (u x)) (watchers rules x) (omega arith))
      each x false e = omega arith

  woke_few : (t u : Table) → Shaped n t → Inside u t → (agenda : List ℕ) → length (woke rules t u agenda) ≤ length agenda + lost n rules t u
  unfolding joined
  woke_few t u shaped inside agenda =
      let s = woken rules (smaller t u) in
      let few = chain (count_mono (λ k. s k && not (member k agenda)) s 256 (λ k l h. (and_parts (s k) _ h).0)) (woken_few t u shaped inside) in
      grown (length agenda) (length-append agenda (select (λ k. s k && not (member k agenda)) 256)) (select_length (λ k. s k && not (member k agenda)) 256) few
    where
      grown : {l c m : ℕ} (a : ℕ) {j : ℕ} → j ≡ a + l → l ≡ c → c ≤ m → j ≤ a + m
      grown a p q r = omega arith

  -- what is lost on the way adds up
  lost_adds : (t u v : Table) → Inside u t → Inside v u → lost n rules t u + lost n rules u v ≡ lost n rules t v
  lost_adds t u v a b =
      total_add (λ x. (size_of (t x) - size_of (u x)) * watchers rules x) (λ x. (size_of (u x) - size_of (v x)) * watchers rules x) n
      ∙ total_ext _ _ n (λ x l.
      let p = size_mono (u x) (t x) (a x) in
      let q = size_mono (v x) (u x) (b x) in
      let e : (size_of (t x) - size_of (u x)) + (size_of (u x) - size_of (v x)) ≡ size_of (t x) - size_of (v x) = omega arith in
      sym (add-mul (size_of (t x) - size_of (u x)) (size_of (u x) - size_of (v x)) (watchers rules x)) ∙ ap (λ d. d * watchers rules x) e)

  -- the runs of a settle
  pub few_runs : {agenda : List ℕ} {t u : Table} {k : ℕ} {o : Outcome} → Settles n rules agenda t k o u → o ≡ settled → Shaped n t → k ≤ length agenda + lost n rules t u
  few_runs rests e shaped = omega arith
  few_runs (fails {i = i} run) e shaped = absurd (failed_settled i e)
  few_runs {agenda = i ∷ rest} {t = t} {u = v} (runs {u = u} run more) e shaped =
      let a = few_runs more e (inside_shaped n u t run.inside shaped) in
      let b = woke_few t u shaped run.inside rest in
      let c = lost_adds t u v run.inside (settles_inside more) in
      omega arith
