-- Two lists of rules as one. Ghost members name these proofs.
use Rattle.std.specs.Prelude.{◌≡◌, ℕ, ◌+◌, ◌-◌, ◌<◌, ◌≤◌, Bool, false, cond, List, ◌++◌, length, is_ok, Ok, slice_index_or, refl}
use Rattle.std.proofs.Common.{sym, ap, subst, ◌∙◌, ⊎_elim, arith}
use Rattle.std.proofs.lemmas.List.{length-append, get_or_append_left, get_or-append_right}
use Rattle.std.proofs.lemmas.Bool.{cases_lt, le-leb, lt-leb, both_ways}
use Rattle.rules.specs.Rules.{Rule, Lawful}
use Rattle.rules.specs.Banks.{nobody, count_of, called, Lawfully}

-- ---- a list of at most 256, and a longer one

pub count_few : (rules : List Rule) → length rules ≤ 256 → count_of rules ≡ length rules
count_few rules l = ap (λ (b : Bool). cond b (length rules) 257) (le-leb (length rules) 256 l)

pub count_many : (rules : List Rule) → 256 < length rules → count_of rules ≡ 257
count_many rules l = ap (λ (b : Bool). cond b (length rules) 257) (lt-leb (length rules) 256 l)

pub count_is : (rules : List Rule) → count_of rules ≤ 256 → count_of rules ≡ length rules
count_is rules h = ⊎_elim (λ many. absurd (omega (arith, count_many rules many))) (λ few. count_few rules few) (cases_lt 256 (length rules))

pub called_few : (rules : List Rule) (i : ℕ) → length rules ≤ 256 → called rules i ≡ slice_index_or rules i nobody
called_few rules i l = ap (λ (b : Bool). cond b (slice_index_or rules i nobody) nobody) (le-leb (length rules) 256 l)

pub called_over : (rules : List Rule) (i : ℕ) → 256 < length rules → called rules i ≡ nobody
called_over rules i l = ap (λ (b : Bool). cond b (slice_index_or rules i nobody) nobody) (lt-leb (length rules) 256 l)

-- nobody fits nothing
pub nobody_lawful : (n : ℕ) → nobody.fit n ≡ Ok tt → Lawful n nobody
nobody_lawful n e = absurd (both_ways false refl (ap is_ok e))

-- ---- two lists

module _ (a b : List Rule) where
  -- the number of both
  pub joined_count : count_of a + count_of b ≤ 256 → length (a ++ b) ≡ count_of a + count_of b
  joined_count h = let l = length-append a b in let p = count_is a (omega arith) in let q = count_is b (omega arith) in omega arith

  -- together they are too many
  pub joined_over : 256 < count_of a + count_of b → 256 < length (a ++ b)
  joined_over h =
      let l = length-append a b in
      ⊎_elim (λ many. omega arith)
      (λ few. ⊎_elim (λ over. omega arith) (λ under. let p = count_few a few in let q = count_few b under in omega arith) (cases_lt 256 (length b)))
      (cases_lt 256 (length a))

  pub joined_many : (i : ℕ) → 256 < count_of a + count_of b → called (a ++ b) i ≡ nobody
  joined_many i h = called_over (a ++ b) i (joined_over h)

  -- the first list's rules keep their numbers
  pub joined_first : (i : ℕ) → count_of a + count_of b ≤ 256 → i < count_of a → called (a ++ b) i ≡ called a i
  joined_first i h l =
      let n = joined_count h in
      let p = count_is a (omega arith) in
      called_few (a ++ b) i (omega arith) ∙ get_or_append_left a b nobody i (omega arith) ∙ sym (called_few a i (omega arith))

  -- the second list's come after them
  pub joined_second : (i : ℕ) → count_of a + count_of b ≤ 256 → count_of a ≤ i → called (a ++ b) i ≡ called b (i - count_of a)
  joined_second i h l =
      let n = joined_count h in
      let p = count_is a (omega arith) in
      let q = count_is b (omega arith) in
      called_few (a ++ b) i (omega arith) ∙ get_or-append_right a b (count_of a) i nobody (sym p) l ∙ sym (called_few b (i - count_of a) (omega arith))

  -- two lawful banks are one
  pub joined_lawful : Lawfully a → Lawfully b → Lawfully (a ++ b)
  joined_lawful la lb i n e =
      ⊎_elim
      (λ many. let is = joined_many i many in subst (λ (r : Rule). Lawful n r) (sym is) (nobody_lawful n (subst (λ (r : Rule). r.fit n ≡ Ok tt) is e)))
      (λ few. ⊎_elim
      (λ low. let is = joined_first i few low in subst (λ (r : Rule). Lawful n r) (sym is) (la i n (subst (λ (r : Rule). r.fit n ≡ Ok tt) is e)))
      (λ high. let is = joined_second i few high in subst (λ (r : Rule). Lawful n r) (sym is) (lb (i - count_of a) n (subst (λ (r : Rule). r.fit n ≡ Ok tt) is e)))
      (cases_lt i (count_of a)))
      (cases_lt 256 (count_of a + count_of b))

  -- the same by the numbers that the banks told
  pub told_many : (i p q : ℕ) → p ≡ count_of a → q ≡ count_of b → 256 < p + q → called (a ++ b) i ≡ nobody
  told_many i p q ep eq h = joined_many i (omega arith)

  pub told_first : (i p q : ℕ) → p ≡ count_of a → q ≡ count_of b → p + q ≤ 256 → i < p → called (a ++ b) i ≡ called a i
  told_first i p q ep eq h l = joined_first i (omega arith) (omega arith)

  pub told_second : (i p q : ℕ) → p ≡ count_of a → q ≡ count_of b → p + q ≤ 256 → p ≤ i → called (a ++ b) i ≡ called b (i - p)
  told_second i p q ep eq h l = joined_second i (omega arith) (omega arith) ∙ ap (λ m. called b (i - m)) (sym ep)

  pub told_over : (p q : ℕ) → p ≡ count_of a → q ≡ count_of b → 256 < p + q → 257 ≡ count_of (a ++ b)
  told_over p q ep eq h = sym (count_many (a ++ b) (joined_over (omega arith)))

  pub told_sum : (p q : ℕ) → p ≡ count_of a → q ≡ count_of b → p + q ≤ 256 → p + q ≡ count_of (a ++ b)
  told_sum p q ep eq h = let n = joined_count (omega arith) in let c = count_few (a ++ b) (omega arith) in omega arith
