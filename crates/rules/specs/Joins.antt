-- Which of two lists of rules has the rule of a number, when they are one.
use Rattle.std.specs.Prelude.{◌≡◌, ℕ, List, ◌++◌, None, Some, Option}
use Rattle.rules.specs.declared.side.Side.{Side}
use Rattle.rules.specs.declared.side.Side.TheVariants.{First, Second}
use Rattle.rules.specs.Rules.{Rule}
use Rattle.rules.specs.Banks.{nobody, called}

abbrev pub Whose : List Rule → List Rule → ℕ → Option Side → Type 0
Whose a b i None = called (a ++ b) i ≡ nobody
Whose a b i (Some (First k)) = called (a ++ b) i ≡ called a k
Whose a b i (Some (Second k)) = called (a ++ b) i ≡ called b k
