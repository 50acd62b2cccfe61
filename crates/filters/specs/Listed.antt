-- The rules of a list.
use Rattle.std.specs.Prelude.{Some, None, Option}
use Rattle.rules.specs.Rules.{Rule}
use Rattle.rules.specs.Banks.{nobody}

-- the rule that stands for what was found, or nobody
abbrev pub rule_by : {A : Type 0} → (A → Rule) → Option A → Rule
rule_by f None = nobody
rule_by f (Some a) = f a
