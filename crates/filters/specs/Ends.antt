-- The least and the greatest value of a domain.
use Rattle.std.specs.Prelude.{ℕ, zero, suc, cond, ℤ, pos, negsuc, ◌+ℤ◌, ◌-ℤ◌}
use Rattle.tables.specs.Tables.{Domain}

-- the first number of a domain among the k numbers from v upwards, else the number behind them
abbrev pub first_from : Domain → ℕ → ℤ → ℤ
first_from d zero v = v
first_from d (suc k) v = cond (d v) v (first_from d k (v +ℤ pos 1))

-- the first number of a domain among the k numbers from v downwards, else the number behind them
abbrev pub last_from : Domain → ℕ → ℤ → ℤ
last_from d zero v = v
last_from d (suc k) v = cond (d v) v (last_from d k (v -ℤ pos 1))

-- the least value of a domain: of the 1,024 from -512 upwards, the first that it has
unfoldable pub least : Domain → ℤ
least d = first_from d 1024 (negsuc 511)

-- the greatest value of a domain: of the 1,024 from 511 downwards, the first that it has
unfoldable pub greatest : Domain → ℤ
greatest d = last_from d 1024 (pos 511)
