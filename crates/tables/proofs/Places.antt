-- Values and their places, and a row by its words.
use Rattle.std.proofs.Common.{◌≡◌, ℕ, ◌+◌, ◌-◌, ◌*◌, ◌/◌, ◌%◌, ◌^◌, ◌<◌, ◌≤◌, Bool, true, false, cond, not, ◌&&◌, ◌||◌, eqb, leb, List, length, get_or, set, ℤ, pos, negsuc, ◌+ℤ◌, ◌≤ℤ◌, refl, ap, ◌∙◌, ap₂, arith}
use lib.Bits.{bit_and, bit_or}
use Rattle.std.proofs.lemmas.List.{get_or_past}
use Rattle.std.proofs.lemmas.Nat.{pow_below}
use Rattle.std.proofs.lemmas.Int.{ints}
use Rattle.std.proofs.lemmas.Bool.{leb-true, and_parts}
use Rattle.std.proofs.lemmas.Bool.Decides.{nat_tests}
use Rattle.std.proofs.lemmas.Grind.{common_steps}
use Rattle.tables.specs.Values.{is_value, place, value_at, equal_int}
use Rattle.tables.specs.Rows.{bit, at_place, in_row}
use Rattle.tables.proofs.Words.{bit_zero, and_bits, or_bits, bit_one, bit_not}

-- a value is below 1,024 from the least one
pub place_below : (v : ℤ) → is_value v ≡ true → place v < 1024
place_below (pos n) h = let e : leb n 511 ≡ true = h in omega (arith, leb-true n 511 e)
place_below (negsuc n) h = omega arith

-- a value is its place less 512
pub place_is : (v : ℤ) → is_value v ≡ true → pos (place v) ≡ v +ℤ pos 512
place_is (pos n) h = refl
place_is (negsuc n) h = let e : leb n 511 ≡ true = (and_parts (leb n 511) true h).0 in let l = leb-true n 511 e in omega (arith, ints)

pub value_at_place : (v : ℤ) → is_value v ≡ true → value_at (place v) ≡ v
value_at_place v h = let e = place_is v h in omega (arith, ints)

pub value_from : (v : ℤ) → negsuc 511 ≤ℤ v → v ≤ℤ pos 511 → is_value v ≡ true
value_from v a b = grind (arith, ints)

pub value_low : (v : ℤ) → is_value v ≡ true → negsuc 511 ≤ℤ v
value_low v h = grind (arith, ints)

pub value_high : (v : ℤ) → is_value v ≡ true → v ≤ℤ pos 511
value_high v h = grind (arith, ints)

pub is_value_at : (p : ℕ) → p < 1024 → is_value (value_at p) ≡ true
is_value_at p h = value_from (value_at p) (omega (arith, ints)) (omega (arith, ints))

pub place_at : (p : ℕ) → p < 1024 → place (value_at p) ≡ p
place_at p h = let e = place_is (value_at p) (is_value_at p h) in omega (arith, ints)

-- the bit of place p, by the place's value
pub in_row_at : (row : List ℕ) (p : ℕ) → p < 1024 → in_row row (value_at p) ≡ at_place row p
in_row_at row p h = ap₂ (λ (a : Bool) (q : ℕ). a && at_place row q) (is_value_at p h) (place_at p h)

-- bit k of word j
pub at_word : (row : List ℕ) (j k : ℕ) → k < 64 → at_place row (64 * j + k) ≡ bit (get_or row j 0) k
at_word row j k h =
    let q : (64 * j + k) / 64 ≡ j = omega arith in
    let r : (64 * j + k) % 64 ≡ k = omega arith in
    ap₂ (λ i m. bit (get_or row i 0) m) q r

-- past the words that are there nothing is set
pub at_past : (row : List ℕ) (p : ℕ) → 64 * length row ≤ p → at_place row p ≡ false
at_past row p h = ap (λ w. bit w (p % 64)) (get_or_past row (p / 64) 0 (omega arith)) ∙ bit_zero (p % 64)

-- what each word says of its bits says of each place, and so of each value
pub row_by_words : (row : List ℕ) (f : ℕ → Bool) → ((j : ℕ) → j < 16 → (k : ℕ) → k < 64 → bit (get_or row j 0) k ≡ f (64 * j + k)) → (v : ℤ) → in_row row v ≡ (is_value v && f (place v))
row_by_words row f e v = elim_value (is_value v) refl
  where
    elim_value : (b : Bool) → is_value v ≡ b → (b && at_place row (place v)) ≡ (b && f (place v))
    elim_value false h = refl
    elim_value true h =
        let l = place_below v h in
        let s : 64 * (place v / 64) + place v % 64 ≡ place v = omega arith in
        e (place v / 64) (omega arith) (place v % 64) (omega arith) ∙ ap f s

-- ---- one bit of a row changed

pub equal_true : (u v : ℤ) → equal_int u v ≡ true → u ≡ v
equal_true u v h = grind (arith, ints)

pub equal_same : (u v : ℤ) → u ≡ v → equal_int u v ≡ true
equal_same u v h = grind (arith, ints)

-- one word written
pub at_set : (row : List ℕ) (j w q : ℕ) → j < length row → at_place (set row j w) q ≡ cond (eqb (q / 64) j) (bit w (q % 64)) (at_place row q)
at_set row j w q h = grind (arith, common_steps)

-- one bit set
pub at_put : (row : List ℕ) (p q : ℕ) → p / 64 < length row → at_place (set row (p / 64) (bit_or (get_or row (p / 64) 0) (2 ^ (p % 64)))) q ≡ (at_place row q || eqb q p)
at_put row p q h =
    let word = or_bits (get_or row (p / 64) 0) (2 ^ (p % 64)) (q % 64) ∙ ap (λ (b : Bool). bit (get_or row (p / 64) 0) (q % 64) || b) (bit_one (p % 64) (q % 64)) in
    at_set row (p / 64) _ q h ∙ ap (λ (b : Bool). cond (eqb (q / 64) (p / 64)) b (at_place row q)) word ∙ grind (arith, nat_tests)

-- one bit cleared
pub at_drop : (row : List ℕ) (p q : ℕ) → p / 64 < length row → at_place (set row (p / 64) (bit_and (get_or row (p / 64) 0) (2 ^ 64 - 1 - 2 ^ (p % 64)))) q ≡ (at_place row q && not (eqb q p))
at_drop row p q h =
    let word =
    and_bits (get_or row (p / 64) 0) (2 ^ 64 - 1 - 2 ^ (p % 64)) (q % 64)
    ∙ ap (λ (b : Bool). bit (get_or row (p / 64) 0) (q % 64) && b) (bit_not 64 (2 ^ (p % 64)) (q % 64) (omega arith) (pow_below (p % 64) 64 (omega arith)) ∙ ap not (bit_one (p % 64) (q % 64))) in
    at_set row (p / 64) _ q h ∙ ap (λ (b : Bool). cond (eqb (q / 64) (p / 64)) b (at_place row q)) word ∙ grind (arith, nat_tests)
