-- The bits of one word: of 0, of a mask, of the operations on words, and that the bits fix the word.
use Rattle.std.proofs.Common.{min, max, ◌≡◌, ℕ, zero, suc, ◌+◌, ◌-◌, ◌*◌, ◌/◌, ◌%◌, ◌^◌, ◌<◌, ◌≤◌, true, false, cond, not, ◌&&◌, ◌||◌, eqb, ltb, sym, refl, ap, ◌∙◌, subst, ap₂, ⊎_elim, mul_comm, pow-suc, arith, pow_mono, shr_lt}
use native.Mathlib.Nat.{div-eq_of_lt, mul-sub}
use lib.Bits.{bit_and, bit_or}
use lib.Pow.{high, split}
use lib.Count.{ones, ones_cat}
use Rattle.std.proofs.lemmas.Nat.{pow_pos, pow-add, mod-pow-add, mul-le}
use Rattle.std.proofs.lemmas.Bool.{cases_lt, lt-ltb, le-ltb, eq-eqb, ne_eqb, both_ways}
use Rattle.std.proofs.lemmas.Nat.Bits.{bit_at_and, bit_at_or, bit_at_ones, bit_at_ones_above, bit_at-pow_same, bit_at-pow_other, same_from_bits_below}
use Rattle.std.proofs.lemmas.Bool.Decides.{nat_tests}
use Rattle.std.proofs.lemmas.Bool.{cases_eq}
use Rattle.tables.specs.Rows.{bit}
use Rattle.tables.specs.Tables.{count}

-- a word is 0 from the bit on that its bound shows
pub bit_past : (w k : ℕ) → w < 2 ^ k → bit w k ≡ false
bit_past w k h = ap (λ n. eqb (n % 2) 1) (div-eq_of_lt h)

-- a set bit lies below the word's bound
pub bit_below : (n w k : ℕ) → w < 2 ^ n → bit w k ≡ true → k < n
bit_below n w k h t = ⊎_elim (λ l. l) (λ l. absurd (both_ways (bit w k) (bit_past w k (omega (arith, pow_mono l))) t)) (cases_lt k n)

pub bit_zero : (k : ℕ) → bit 0 k ≡ false
bit_zero k = bit_past 0 k (pow_pos k)

-- a digit is 0 or 1
and_digit : (a b : ℕ) → a < 2 → b < 2 → eqb (min a b) 1 ≡ (eqb a 1 && eqb b 1)
and_digit a b p q = grind (arith, nat_tests)

or_digit : (a b : ℕ) → a < 2 → b < 2 → eqb (max a b) 1 ≡ (eqb a 1 || eqb b 1)
or_digit a b p q = grind (arith, nat_tests)

same_digit : (a b : ℕ) → a < 2 → b < 2 → eqb a 1 ≡ eqb b 1 → a ≡ b
same_digit a b p q e = grind (arith, nat_tests)

pub and_bits : (a b k : ℕ) → bit (bit_and a b) k ≡ (bit a k && bit b k)
and_bits a b k = ap (λ n. eqb n 1) (bit_at_and a b k) ∙ and_digit (a / 2 ^ k % 2) (b / 2 ^ k % 2) (omega arith) (omega arith)

pub or_bits : (a b k : ℕ) → bit (bit_or a b) k ≡ (bit a k || bit b k)
or_bits a b k = ap (λ n. eqb n 1) (bit_at_or a b k) ∙ or_digit (a / 2 ^ k % 2) (b / 2 ^ k % 2) (omega arith) (omega arith)

-- the mask of the lowest n bits
pub bit_low : (n k : ℕ) → bit (2 ^ n - 1) k ≡ ltb k n
bit_low n k = ⊎_elim (λ h. ap (λ d. eqb d 1) (bit_at_ones n k h) ∙ sym (lt-ltb k n h)) (λ h. ap (λ d. eqb d 1) (bit_at_ones_above n k h) ∙ sym (le-ltb k n h)) (cases_lt k n)

-- the mask of one bit
pub bit_one : (b k : ℕ) → bit (2 ^ b) k ≡ eqb k b
bit_one b k =
    ⊎_elim
    (λ e. ap (bit (2 ^ b)) e ∙ ap (λ d. eqb d 1) (bit_at-pow_same b) ∙ sym (eq-eqb k b e))
    (λ ne. ap (λ d. eqb d 1) (bit_at-pow_other b k ne) ∙ sym (ne_eqb k b ne))
    (cases_eq k b)

-- the other digit
flip_digit : (m q : ℕ) → q < m * 2 → eqb ((m * 2 - 1 - q) % 2) 1 ≡ not (eqb (q % 2) 1)
flip_digit m q h = grind (arith, nat_tests)

-- a number below a * b, taken from a * b - 1, by quotient and remainder
flip_parts : (a b q r w : ℕ) → w ≡ q * b + r → r < b → q < a → a * b - 1 - w ≡ (a - (1 + q)) * b + (b - 1 - r)
flip_parts a b q r w e l t =
    let spread : (a - (1 + q)) * b ≡ a * b - (1 + q) * b = mul_comm (a - (1 + q)) b ∙ mul-sub b a (1 + q) ∙ ap₂ (λ i j. i - j) (mul_comm b a) (mul_comm b (1 + q)) in
    let more : (1 + q) * b ≡ b + q * b = omega arith in
    let room : (1 + q) * b ≤ a * b = mul-le (1 + q) b a b (omega arith) (omega arith) in
    omega arith

-- `!w` at n bits
pub bit_not : (n w k : ℕ) → k < n → w < 2 ^ n → bit (2 ^ n - 1 - w) k ≡ not (bit w k)
bit_not n w k h b =
    let m : ℕ = n - suc k in
    let e : suc m + k ≡ n = omega arith in
    let q : ℕ = w / 2 ^ k in
    let full : 2 ^ n ≡ 2 ^ suc m * 2 ^ k = ap (λ i. 2 ^ i) (sym e) ∙ pow-add 2 (suc m) k in
    let top : q < 2 ^ suc m = shr_lt (suc m) k (subst (λ i. w < 2 ^ i) (sym e) b) in
    let parts = flip_parts (2 ^ suc m) (2 ^ k) q (w % 2 ^ k) w (sym (split w k)) (omega (arith, pow_pos k)) top in
    let quotient : (2 ^ n - 1 - w) / 2 ^ k ≡ 2 ^ suc m - (1 + q) = ap (λ i. (i - 1 - w) / 2 ^ k) full ∙ ap (λ i. i / 2 ^ k) parts ∙ high (2 ^ suc m - (1 + q)) k (omega (arith, pow_pos k)) in
    let two : 2 ^ suc m ≡ 2 ^ m * 2 = pow-suc 2 m in
    let flat : 2 ^ suc m - (1 + q) ≡ 2 ^ m * 2 - 1 - q = omega arith in
    ap (λ i. eqb (i % 2) 1) (quotient ∙ flat) ∙ flip_digit (2 ^ m) q (omega arith)

-- words with the same bits are the same
pub bits_same : (n a b : ℕ) → a < 2 ^ n → b < 2 ^ n → ((k : ℕ) → k < n → bit a k ≡ bit b k) → a ≡ b
bits_same n a b p q f = same_from_bits_below n a b p q (λ k h. same_digit (a / 2 ^ k % 2) (b / 2 ^ k % 2) (omega arith) (omega arith) (f k h))

one_digit : (d : ℕ) → d < 2 → cond (eqb d 1) 1 0 ≡ ones d
unfolding ones
one_digit zero h = refl
one_digit (suc zero) h = refl
one_digit (suc (suc d)) h = absurd (omega arith)

-- how many of the lowest k bits are set
pub count_bits : (w k : ℕ) → count (bit w) k ≡ ones (w % 2 ^ k)
unfolding ones
count_bits w zero = ap ones (sym (let z : w % 2 ^ 0 ≡ 0 = omega arith in z))
count_bits w (suc k) =
    let e : suc k ≡ 1 + k = omega arith in
    ap₂ (λ i j. i + j) (one_digit (w / 2 ^ k % 2) (omega arith)) (count_bits w k)
    ∙ sym (ap (λ i. ones (w % 2 ^ i)) e ∙ ap ones (mod-pow-add w 1 k) ∙ ones_cat k (w / 2 ^ k % 2) (w % 2 ^ k) (omega (arith, pow_pos k)))
