-- Counting over the numbers below a bound, as a chain over a range does it.
use Rattle.std.proofs.Common.{◌≡◌, ℕ, zero, suc, ◌+◌, Bool, false, ◌||◌, eqb, map, sym, refl, ap, ◌∙◌, add-one, arith}
use Rattle.std.proofs.Math.Bool.{or_comm, or_assoc}
use Rattle.std.specs.List.{list_any, range_with_len, sum_by}
use Rattle.std.proofs.lemmas.List.FromFn.{sum_by-map-range_with_len_more}
use Rattle.std.proofs.lemmas.List.Sums.{sum-map}
use Rattle.tables.specs.Tables.{Table, size_of, is_void}
use Rattle.sessions.specs.Steps.{values}

-- one number more
any_more : (p : ℕ → Bool) (a n : ℕ) → list_any p (range_with_len a (suc n)) ≡ (p (a + n) || list_any p (range_with_len a n))
any_more p a zero = let e : a ≡ a + 0 = omega arith in ap (λ m. p m || false) e
any_more p a (suc n) =
    let e : (a + 1) + n ≡ a + suc n = omega arith in
    ap (λ (b : Bool). p a || b) (any_more p (a + 1) n ∙ ap (λ m. p m || list_any p (range_with_len (a + 1) n)) e)
    ∙ sym (or_assoc (p a) (p (a + suc n)) (list_any p (range_with_len (a + 1) n)))
    ∙ ap (λ (b : Bool). b || list_any p (range_with_len (a + 1) n)) (or_comm (p a) (p (a + suc n)))
    ∙ or_assoc (p (a + suc n)) (p a) (list_any p (range_with_len (a + 1) n))

pub any_void : (t : Table) (n : ℕ) → list_any (λ x. eqb (size_of (t x)) 0) (range_with_len 0 n) ≡ is_void n t
any_void t zero = refl
any_void t (suc n) =
    let e : 0 + n ≡ n = omega arith in
    any_more (λ x. eqb (size_of (t x)) 0) 0 n ∙ ap (λ m. eqb (size_of (t m)) 0 || list_any (λ x. eqb (size_of (t x)) 0) (range_with_len 0 n)) e ∙ ap (λ (b : Bool). eqb (size_of (t n)) 0 || b) (any_void t n)

summed : (t : Table) (n : ℕ) → sum_by (λ m. m) (map (λ x. size_of (t x)) (range_with_len 0 n)) ≡ values n t
summed t zero = refl
summed t (suc n) =
    let rest = summed t n in
    let more = sum_by-map-range_with_len_more (λ m. m) (λ x. size_of (t x)) 0 n n (omega arith) in
    ap (λ m. sum_by (λ m. m) (map (λ x. size_of (t x)) (range_with_len 0 m))) (sym (add-one n)) ∙ (let e : sum_by (λ m. m) (map (λ x. size_of (t x)) (range_with_len 0 (n + 1))) ≡ size_of (t n) + values n t = omega arith in e)

pub sum_values : (t : Table) (n : ℕ) → sum_by (λ x. size_of (t x)) (range_with_len 0 n) ≡ values n t
sum_values t n = sym (sum-map (λ x. size_of (t x)) (range_with_len 0 n)) ∙ summed t n
