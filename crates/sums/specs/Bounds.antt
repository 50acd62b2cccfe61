-- The least and the greatest worth of a term, and sums of them.
use Rattle.std.specs.Prelude.{◌≡◌, ℕ, ◌<◌, true, false, List, [], ◌∷◌, ℤ, ◌+ℤ◌, neg_ℤ, ◌≤ℤ◌, nat_lt, refl}
use Rattle.std.proofs.Common.{ap, ap₂, arith}
use Rattle.std.proofs.lemmas.Int.{ints}
use Rattle.std.proofs.lemmas.Bool.{ltb-true, and_parts}
use Rattle.tables.specs.Values.{is_value}
use Rattle.tables.specs.Tables.{Domain, Table, Shaped, size_of, is_void, Inside}
use Rattle.rules.specs.Rules.{Assignment, at, In, Single}
use Rattle.rules.proofs.Voids.{full_at, size_one}
use Rattle.filters.specs.Ends.{least, greatest}
use Rattle.filters.proofs.Extremes.{member_of, least_of, greatest_of, least_mono, greatest_mono, between}
use Rattle.sums.specs.declared.rule.Sign.{Sign}
use Rattle.sums.specs.declared.rule.Sign.TheVariants.{Plus, Minus}
use Rattle.sums.specs.declared.rule.Term.{Term}
use Rattle.sums.specs.Sums.{signed, lowest, highest, lo, hi, total, are_below, worth}

negated : (a b : ℤ) → a ≤ℤ b → neg_ℤ b ≤ℤ neg_ℤ a
negated a b h = omega (arith, ints)

pub added : (a b c d : ℤ) → a ≤ℤ c → b ≤ℤ d → (a +ℤ b) ≤ℤ (c +ℤ d)
added a b c d p q = omega (arith, ints)

-- ---- one term

-- the worth of each value lies between the ends
pub lowest_le : (s : Sign) (d : Domain) (v : ℤ) → is_value v ≡ true → d v ≡ true → lowest s d ≤ℤ signed s v
lowest_le Plus d v h t = (between d v h t).0
lowest_le Minus d v h t = negated v (greatest d) (between d v h t).1

pub highest_ge : (s : Sign) (d : Domain) (v : ℤ) → is_value v ≡ true → d v ≡ true → signed s v ≤ℤ highest s d
highest_ge Plus d v h t = (between d v h t).1
highest_ge Minus d v h t = negated (least d) v (between d v h t).0

module _ (d e : Domain) (some : 0 < size_of d) (values : (v : ℤ) → d v ≡ true → is_value v ≡ true) (inside : (v : ℤ) → d v ≡ true → e v ≡ true) where
  -- a smaller domain has narrower ends
  lowest_mono : (s : Sign) → lowest s e ≤ℤ lowest s d
  lowest_mono Plus = let w = member_of d some in least_mono d e w.0 w.1 w.2 values inside
  lowest_mono Minus = let w = member_of d some in negated (greatest d) (greatest e) (greatest_mono d e w.0 w.1 w.2 values inside)

  highest_mono : (s : Sign) → highest s d ≤ℤ highest s e
  highest_mono Plus = let w = member_of d some in greatest_mono d e w.0 w.1 w.2 values inside
  highest_mono Minus = let w = member_of d some in negated (least e) (least d) (least_mono d e w.0 w.1 w.2 values inside)

-- a domain with one value has its ends there
module _ (d : Domain) (one : size_of d ≡ 1) (values : (v : ℤ) → d v ≡ true → is_value v ≡ true) (v : ℤ) (t : d v ≡ true) where
  least_one : least d ≡ v
  least_one = let m = (least_of d v (values v t) t).member in size_one d one (least d) v (values (least d) m) (values v t) m t

  greatest_one : greatest d ≡ v
  greatest_one = let m = (greatest_of d v (values v t) t).member in size_one d one (greatest d) v (values (greatest d) m) (values v t) m t

  lowest_one : (s : Sign) → lowest s d ≡ signed s v
  lowest_one Plus = least_one
  lowest_one Minus = ap neg_ℤ greatest_one

  highest_one : (s : Sign) → highest s d ≡ signed s v
  highest_one Plus = greatest_one
  highest_one Minus = ap neg_ℤ least_one

-- ---- the terms of a list

pub head_below : (n : ℕ) (m : Term) (ms : List Term) → are_below n (m ∷ ms) ≡ true → m.x < n
head_below n m ms h = ltb-true m.x n (and_parts (nat_lt m.x n) (are_below n ms) h).0

pub tail_below : (n : ℕ) (m : Term) (ms : List Term) → are_below n (m ∷ ms) ≡ true → are_below n ms ≡ true
tail_below n m ms h = (and_parts (nat_lt m.x n) (are_below n ms) h).1

-- a smaller table that is not void
module _ (n : ℕ) (d e : Table) (shaped : Shaped n d) (full : is_void n d ≡ false) (inside : Inside d e) where
  pub lo_mono : (m : Term) → m.x < n → lo e m ≤ℤ lo d m
  lo_mono m h = lowest_mono (d m.x) (e m.x) (full_at n d full m.x h) (λ v t. (shaped m.x v t).1) (inside m.x) m.sign

  pub hi_mono : (m : Term) → m.x < n → hi d m ≤ℤ hi e m
  hi_mono m h = highest_mono (d m.x) (e m.x) (full_at n d full m.x h) (λ v t. (shaped m.x v t).1) (inside m.x) m.sign

  pub los_mono : (ms : List Term) → are_below n ms ≡ true → total (lo e) ms ≤ℤ total (lo d) ms
  los_mono [] h = omega (arith, ints)
  los_mono (m ∷ ms) h = added _ _ _ _ (lo_mono m (head_below n m ms h)) (los_mono ms (tail_below n m ms h))

  pub his_mono : (ms : List Term) → are_below n ms ≡ true → total (hi d) ms ≤ℤ total (hi e) ms
  his_mono [] h = omega (arith, ints)
  his_mono (m ∷ ms) h = added _ _ _ _ (hi_mono m (head_below n m ms h)) (his_mono ms (tail_below n m ms h))

-- an assignment in a table
module _ (n : ℕ) (t : Table) (shaped : Shaped n t) (a : Assignment) (inside : In n t a) where
  pub lo_le : (m : Term) → m.x < n → lo t m ≤ℤ worth a m
  lo_le m h = let i = inside.1 m.x h in lowest_le m.sign (t m.x) (at a m.x) (shaped m.x (at a m.x) i).1 i

  pub hi_ge : (m : Term) → m.x < n → worth a m ≤ℤ hi t m
  hi_ge m h = let i = inside.1 m.x h in highest_ge m.sign (t m.x) (at a m.x) (shaped m.x (at a m.x) i).1 i

  pub los_le : (ms : List Term) → are_below n ms ≡ true → total (lo t) ms ≤ℤ total (worth a) ms
  los_le [] h = omega (arith, ints)
  los_le (m ∷ ms) h = added _ _ _ _ (lo_le m (head_below n m ms h)) (los_le ms (tail_below n m ms h))

  pub his_ge : (ms : List Term) → are_below n ms ≡ true → total (worth a) ms ≤ℤ total (hi t) ms
  his_ge [] h = omega (arith, ints)
  his_ge (m ∷ ms) h = added _ _ _ _ (hi_ge m (head_below n m ms h)) (his_ge ms (tail_below n m ms h))

  -- the only one in it
  module _ (single : Single n t) where
    pub los_one : (ms : List Term) → are_below n ms ≡ true → total (lo t) ms ≡ total (worth a) ms
    los_one [] h = refl
    los_one (m ∷ ms) h = let l = head_below n m ms h in ap₂ ◌+ℤ◌ (lowest_one (t m.x) (single m.x l) (λ v i. (shaped m.x v i).1) (at a m.x) (inside.1 m.x l) m.sign) (los_one ms (tail_below n m ms h))

    pub his_one : (ms : List Term) → are_below n ms ≡ true → total (hi t) ms ≡ total (worth a) ms
    his_one [] h = refl
    his_one (m ∷ ms) h = let l = head_below n m ms h in ap₂ ◌+ℤ◌ (highest_one (t m.x) (single m.x l) (λ v i. (shaped m.x v i).1) (at a m.x) (inside.1 m.x l) m.sign) (his_one ms (tail_below n m ms h))
