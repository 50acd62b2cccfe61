-- The values that a variable can have: the whole numbers from -512 to 511.
use Rattle.std.specs.Prelude.{ℕ, ◌+◌, ◌-◌, Bool, ◌&&◌, ℤ, pos, negsuc, ◌-ℤ◌, int_le}

-- whether a number is a value (`negsuc 511` is -512)
abbrev pub is_value : ℤ → Bool
is_value v = int_le (negsuc 511) v && int_le v (pos 511)

-- the place of a value among the 1,024: the value plus 512 (`negsuc n` is -1 - n)
abbrev pub place : ℤ → ℕ
place (pos n) = n + 512
place (negsuc n) = 511 - n

-- the value at a place
abbrev pub value_at : ℕ → ℤ
value_at p = pos p -ℤ pos 512

-- whether two numbers are the same
abbrev pub equal_int : ℤ → ℤ → Bool
equal_int u v = int_le u v && int_le v u
