-- What the refusals of a store say.
use Rattle.std.specs.Prelude.{ℕ, List, codes}
use Rattle.tables.specs.declared.fault.StoreFault.{StoreFault}
use Rattle.tables.specs.declared.fault.StoreFault.TheVariants.{Limits, Full, NoSave}

abbrev pub fault_text : StoreFault → List ℕ
fault_text Limits = codes "the variables, the depth or the memory are outside their limits"
fault_text Full = codes "as many tables are saved as can be"
fault_text NoSave = codes "no table is saved"
