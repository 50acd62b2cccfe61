-- The lowest and the highest set bit of a word, by the zeros below and above it.
use Rattle.std.proofs.Common.{◌≡◌, ℕ, suc, ◌+◌, ◌-◌, ◌/◌, ◌%◌, ◌^◌, ◌<◌, ◌≤◌, Bool, true, false, cond, ◌&&◌, eqb, ltb, Some, None, Option, sym, ap, ◌∙◌, subst, ⊎_elim, pow-suc, arith, pow_mono}
use Rattle.std.proofs.Math.Bool.{and-true}
use native.Mathlib.Nat.{div-eq_of_lt-le}
use Rattle.std.specs.Option.{option_map}
use lib.Count.{count_trailing_zeros, count_leading_zeros}
use mir.Syntax.{w64}
use Rattle.std.proofs.lemmas.Nat.{shr-shr, leading_top}
use Rattle.std.proofs.lemmas.Nat.Bits.{bit_at-trailing_zeros}
use Rattle.std.proofs.lemmas.Bool.{cases_eq, cases_lt, cond-true, cond-false, eq-eqb, ne_eqb, lt-ltb, ltb-true, and_parts}
use Rattle.tables.specs.Rows.{bit, First, Final}
use Rattle.tables.proofs.Words.{bit_past, bit_zero, bit_below}

-- a word's lowest set bit has as many zeros below it
pub first_bit : (w : ℕ) → w < 2 ^ 64 → First (bit w) 0 64 (cond (eqb w 0) None (Some (count_trailing_zeros 64 w)))
first_bit w fits =
    ⊎_elim
    (λ (e : w ≡ 0). subst (First (bit w) 0 64) (sym (cond-true (eqb w 0) _ _ (eq-eqb w 0 e))) (λ k h l. ap (λ n. bit n k) e ∙ bit_zero k))
    (λ ne.
    let t : ℕ = count_trailing_zeros 64 w in
    let low = bit_at-trailing_zeros w64 w (omega (arith, ne)) fits in
    subst (First (bit w) 0 64) (sym (cond-false (eqb w 0) _ _ (ne_eqb w 0 ne))) (omega arith, low.0, ap (λ n. eqb n 1) low.1, λ k h l. ap (λ n. eqb n 1) (low.2 k l)))
    (cases_eq w 0)

-- bit k of w is bit k - f of w shifted by f
digit : (w f k : ℕ) → f ≤ k → bit w k ≡ bit (w / 2 ^ f) (k - f)
digit w f k h = let e : f + (k - f) ≡ k = omega arith in ap (λ n. eqb (n % 2) 1) (ap (λ m. w / 2 ^ m) (sym e) ∙ sym (shr-shr w f (k - f)))

-- so the lowest set bit of a shifted word tells the first one from f on
pub first_shifted : (w f : ℕ) → w < 2 ^ 64 → (o : Option ℕ) → First (bit (w / 2 ^ f)) 0 64 o → First (bit w) f 64 (option_map (λ k. f + k) o)
first_shifted w f fits None g = λ k h l. digit w f k h ∙ g (k - f) (omega arith) (omega arith)
first_shifted w f fits (Some k) g =
    let back : f + k - f ≡ k = omega arith in
    let hit : bit w (f + k) ≡ true = digit w f (f + k) (omega arith) ∙ ap (λ n. bit (w / 2 ^ f) n) back ∙ g.2 in
    (omega arith, bit_below 64 w (f + k) fits hit, hit, λ i h l. digit w f i h ∙ g.3 (i - f) (omega arith) (omega arith))

-- the highest set bit, which the zeros above it tell
highest : (w : ℕ) → 0 < w → w < 2 ^ 64 → let t : ℕ = 63 - count_leading_zeros 64 w in (t < 64) × (bit w t ≡ true) × ((k : ℕ) → t < k → bit w k ≡ false)
highest w p h =
    let top = leading_top 64 w p h in
    let j : ℕ = top.0 in
    let e : 63 - count_leading_zeros 64 w ≡ j = omega (arith, top.1) in
    let q : w / 2 ^ j ≡ 1 = div-eq_of_lt-le (2 ^ j) (omega (arith, top.2)) (omega (arith, top.3, pow-suc 2 j)) in
    let hit : bit w j ≡ true = ap (λ n. eqb (n % 2) 1) q in
    (omega (arith, top.1), subst (λ i. bit w i ≡ true) (sym e) hit, λ k l. let m : suc j ≤ k = omega arith in bit_past w k (omega (arith, top.3, pow_mono m)))

-- `rest` has the bits of a word at which `keep` is true.
module _ (w rest : ℕ) (keep : ℕ → Bool) (same : (k : ℕ) → k < 64 → bit rest k ≡ (bit w k && keep k)) (fits : rest < 2 ^ 64) where
  lacks : (k : ℕ) → k < 64 → keep k ≡ true → bit rest k ≡ false → bit w k ≡ false
  lacks k l t z = sym (and-true (bit w k)) ∙ ap (λ (b : Bool). bit w k && b) (sym t) ∙ sym (same k l) ∙ z

  pub final_bit : (end : ℕ) → w < 2 ^ 64 → ((k : ℕ) → keep k ≡ ltb k end) → Final (bit w) end (cond (eqb rest 0) None (Some (63 - count_leading_zeros 64 rest)))
  final_bit end small kept =
      ⊎_elim
      (λ (e : rest ≡ 0). subst (Final (bit w) end) (sym (cond-true (eqb rest 0) _ _ (eq-eqb rest 0 e))) (λ k h. none k h (ap (λ n. bit n k) e ∙ bit_zero k)))
      (λ ne.
      let t : ℕ = 63 - count_leading_zeros 64 rest in
      let top = highest rest (omega (arith, ne)) fits in
      let both = and_parts (bit w t) (keep t) (sym (same t top.0) ∙ top.1) in
      subst (Final (bit w) end) (sym (cond-false (eqb rest 0) _ _ (ne_eqb rest 0 ne))) (ltb-true t end (sym (kept t) ∙ both.1), both.0, λ k h l. none k l (top.2 k h)))
      (cases_eq rest 0)
    where
      none : (k : ℕ) → k < end → bit rest k ≡ false → bit w k ≡ false
      none k h z = ⊎_elim (λ l. lacks k l (kept k ∙ lt-ltb k end h) z) (λ l. bit_past w k (omega (arith, pow_mono l))) (cases_lt k 64)
