-- The numbers of a session's refusals.
use Rattle.std.specs.Prelude.{ℕ}
use Rattle.tables.specs.Stores as stores
use Rattle.rules.specs.Banks as banks
use Rattle.sessions.specs.declared.fault.SessionFault.{SessionFault}
use Rattle.sessions.specs.declared.fault.SessionFault.TheVariants.{Variables, Rules, Rule, Variable, Value, Empty, Failed, Stirred, NoSave, Store}

-- the number of each refusal; those of a store and of a rule are their own
abbrev pub number_of : SessionFault → ℕ
number_of Variables = 5
number_of Rules = 5
number_of (Rule rule fault) = banks.number_of fault
number_of Variable = 6
number_of Value = 7
number_of Empty = 9
number_of Failed = 10
number_of Stirred = 11
number_of NoSave = 13
number_of (Store fault) = stores.number_of fault
