-- What the refusals of a rule say.
use Rattle.std.specs.Prelude.{ℕ, List, codes}
use Rattle.rules.specs.declared.fault.RuleFault.{RuleFault}
use Rattle.rules.specs.declared.fault.RuleFault.TheVariants.{Count, Variable, Value, Length}

abbrev pub fault_text : RuleFault → List ℕ
fault_text Count = codes "there is no such rule, or there are too many"
fault_text Variable = codes "a variable is not there"
fault_text Value = codes "a constant is outside its range"
fault_text Length = codes "a list or a side of a matrix is outside its limits"
