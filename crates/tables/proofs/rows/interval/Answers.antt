use Rattle.std.proofs.Common.{◌≡◌, ℕ, ◌+◌, ◌-◌, ◌*◌, ◌^◌, ◌<◌, Bool, not, ◌&&◌, ltb, ap, ◌∙◌, ap₂, arith, rules}
use lib.Bits.{bit_and}
use Rattle.std.proofs.lemmas.Int.{ints, to_z-of_z}
use Rattle.std.proofs.lemmas.Bool.Decides.{nat_tests}
use Rattle.tables.specs.Rows.{bit}
use Rattle.tables.proofs.Words.{and_bits, bit_not}
use Rattle.tables.proofs.Places.{row_by_words}
use Rattle.tables.proofs.Made.{made_at}
use Rattle.tables.proofs.rows.interval.Goals as goal

-- the bits of word j below n places
shifted : (j k n : ℕ) → ltb k (n - 64 * j) ≡ ltb (64 * j + k) n
shifted j k n = grind (arith, nat_tests)

-- y is a word of the bits below e places and not below s, counted from word j on
abbrev Between : (j s e y : ℕ) → Type 0
Between j s e y = (a b : ℕ) × (y ≡ bit_and a (2 ^ 64 - 1 - b)) × (b < 2 ^ 64) × ((k : ℕ) → k < 64 → bit a k ≡ ltb k (e - 64 * j)) × ((k : ℕ) → k < 64 → bit b k ≡ ltb k (s - 64 * j))

word : (j s e y : ℕ) → Between j s e y → (k : ℕ) → k < 64 → bit y k ≡ (ltb (64 * j + k) e && not (ltb (64 * j + k) s))
word j s e y w k h =
    ap (λ n. bit n k) w.2
    ∙ and_bits w.0 (2 ^ 64 - 1 - w.1) k
    ∙ ap₂ (λ (a b : Bool). a && b) (w.4 k h ∙ shifted j k e) (bit_not 64 w.1 k h w.3 ∙ ap not (w.5 k h ∙ shifted j k s))

pub returns : goal.returns
returns c v =
    let s : ℕ = c.places_below-start.result in
    let e : ℕ = c.places_upto-end.result in
    let lo = c.ranges.lo in
    let hi = c.ranges.hi in
    let above = simp to_z-of_z at c.places_below-start.ensures.tells v in
    let below = simp to_z-of_z at c.places_upto-end.ensures.tells v in
    row_by_words c.from_fn.result (λ p. ltb p e && not (ltb p s))
    (made_at _ (λ j w. (k : ℕ) → k < 64 → bit w k ≡ (ltb (64 * j + k) e && not (ltb (64 * j + k) s))) _ _ 0 (λ j y q r. (search rules, word j s e y (search rules))) 16 c.from_fn.ensures.items)
    v
    ∙ grind (arith, ints)
