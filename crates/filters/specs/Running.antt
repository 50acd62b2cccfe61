-- A run that is under way: what it has made of the table that it found.
use Rattle.std.specs.Prelude.{◌≡◌, ℕ, false, List}
use Rattle.tables.specs.Tables.{Table, is_void, Inside}
use Rattle.rules.specs.Banks.{Names}

-- From the table that a run found to the table now, with the set of the variables noted as smaller; it has not failed.
pub record Running (n : ℕ) (found : Table) (set : List ℕ) (now : Table) : Type 0 where
  -- no domain is larger
  pub inside : Inside now found
  -- the set has exactly the variables that got smaller
  pub named : Names set found now
  -- no domain was emptied
  pub full : is_void n found ≡ false → is_void n now ≡ false
