-- A row: a set of values written as sixteen 64-bit words, the value v as bit (v + 512) mod 64 of word (v + 512) div 64, bit 0 the lowest.
use Rattle.std.specs.Prelude.{◌≡◌, ℕ, ◌/◌, ◌%◌, ◌^◌, ◌<◌, ◌≤◌, Bool, true, false, ◌&&◌, List, ℤ, Some, None, Option, ◌==◌, slice_index}
use Rattle.tables.specs.Values.{is_value, place}

-- whether bit k of a word is set
abbrev pub bit : ℕ → ℕ → Bool
bit w k = w / 2 ^ k % 2 == 1

-- whether the words have the bit of place p; words that are not there are 0
abbrev pub at_place : List ℕ → ℕ → Bool
at_place row p = bit (slice_index row (p / 64)) (p % 64)

-- whether a row has a value
abbrev pub in_row : List ℕ → ℤ → Bool
in_row row v = is_value v && at_place row (place v)

-- the answer to: which is the first number from `from` on and below `end` that passes a test, if there is one
abbrev pub First : (ℕ → Bool) → ℕ → ℕ → Option ℕ → Type 0
First p from end None = (k : ℕ) → from ≤ k → k < end → p k ≡ false
First p from end (Some b) = (from ≤ b) × (b < end) × (p b ≡ true) × ((k : ℕ) → from ≤ k → k < b → p k ≡ false)

-- the answer to: which is the greatest number below `end` that passes a test, if there is one
abbrev pub Final : (ℕ → Bool) → ℕ → Option ℕ → Type 0
Final p end None = (k : ℕ) → k < end → p k ≡ false
Final p end (Some b) = (b < end) × (p b ≡ true) × ((k : ℕ) → b < k → k < end → p k ≡ false)
