-- A walk over the values of a domain.
use Rattle.std.specs.Prelude.{◌≡◌, ℕ, ◌+◌, ◌-◌, ℤ, pos, negsuc, ◌+ℤ◌, ◌≤ℤ◌, Some, None, Option}
use Rattle.tables.specs.Tables.{Domain, Next}

-- how far a walk that has come to a number still has to go at the most
abbrev pub ahead : ℤ → ℕ
ahead (pos n) = 512 - n
ahead (negsuc n) = 513 + n

-- From `from` on a walk meets the next value, which lies from -512 to 511, and goes on behind it; or there is none, and it stays.
abbrev pub Visits : Domain → ℤ → Option ℤ → ℤ → Type 0
Visits d from None to = Next d from None × (to ≡ from)
Visits d from (Some v) to = Next d from (Some v) × (negsuc 511 ≤ℤ v) × (v ≤ℤ pos 511) × (to ≡ v +ℤ pos 1)
