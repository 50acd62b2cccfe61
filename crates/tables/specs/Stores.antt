-- What a store refuses, and the list of saved tables, the newest first.
use Rattle.std.specs.Prelude.{ℕ, cond, List, [], ◌∷◌, Ok, Err, Result, ◌==◌, nat_lt}
use Rattle.tables.specs.declared.fault.StoreFault.{StoreFault}
use Rattle.tables.specs.declared.fault.StoreFault.TheVariants.{Limits, Full, NoSave}
use Rattle.tables.specs.declared.kept.Kept.{Kept}
use Rattle.tables.specs.Tables.{Domain, Table, size_of}

-- the number of each refusal
abbrev pub number_of : StoreFault → ℕ
number_of Limits = 5
number_of Full = 12
number_of NoSave = 13

-- what stays through every call of a store
pub record Frame : Type 0 where
  -- n, the number of variables
  pub vars : ℕ
  -- L, how many tables can be saved
  pub most : ℕ
  -- the names of the slices that were lent to the store: by them who lent them knows them after a call
  pub anchors : List ℕ
  -- what the lent memory holds past the store's need
  pub spare : List ℕ

-- what a keep answers, by the domain before and after it: whether it got smaller, and whether it is now empty
abbrev pub answer_keep : Domain → Domain → Kept
answer_keep d e = record { smaller = nat_lt (size_of e) (size_of d); empty = (size_of e == 0) }

-- what a save answers where `depth` tables are saved and `most` can be
abbrev pub answer_save : ℕ → ℕ → Result (Unit {0}) StoreFault
answer_save depth most = cond (nat_lt depth most) (Ok tt) (Err Full)

-- what a restore answers
abbrev pub answer_restore : List Table → Result (Unit {0}) StoreFault
answer_restore [] = Err NoSave
answer_restore (s ∷ saved) = Ok tt

-- the newest saved table, or t where none is saved
abbrev pub newest : List Table → Table → Table
newest [] t = t
newest (s ∷ saved) t = s

-- the saved tables without the newest
abbrev pub older : List Table → List Table
older [] = []
older (s ∷ saved) = saved
