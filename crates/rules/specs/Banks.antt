-- What a bank of rules answers, and what a run leaves.
use Rattle.std.specs.Prelude.{◌≡◌, ℕ, zero, suc, Bool, true, false, cond, ◌&&◌, ◌||◌, List, [], ◌∷◌, length, is_ok, Ok, Err, Result, nat_le, nat_lt, slice_index_or}
use Rattle.tables.specs.Rows.{at_place}
use Rattle.tables.specs.Tables.{Table, size_of, is_void, Inside}
use Rattle.rules.specs.declared.fault.RuleFault.{RuleFault}
use Rattle.rules.specs.declared.fault.RuleFault.TheVariants.{Count, Variable, Value, Length}
use Rattle.rules.specs.declared.ran.Failed.{Failed}
use Rattle.rules.specs.Rules.{Rule, Lawful}

-- the number of each refusal
abbrev pub number_of : RuleFault → ℕ
number_of Count = 5
number_of Variable = 6
number_of Value = 7
number_of Length = 8

-- whether a set of numbers below 256, written as four 64-bit words, has k
abbrev pub in_set : List ℕ → ℕ → Bool
in_set s k = at_place s k

-- the empty set
abbrev pub nothing : List ℕ
nothing = 0 ∷ 0 ∷ 0 ∷ 0 ∷ []

-- whether a number below n passes a test
abbrev pub some : (ℕ → Bool) → ℕ → Bool
some p zero = false
some p (suc n) = p n || some p n

-- what stands for a rule that is not there: it fits nothing and watches nothing
abbrev pub nobody : Rule
nobody = record { watches = λ _. false; filter = λ t. t; obeyed = λ _. true; fit = λ _. Err Count }

-- the number of rules that a bank tells, 257 where there are more than 256
abbrev pub count_of : List Rule → ℕ
count_of rules = cond (nat_le (length rules) 256) (length rules) 257

-- the rule of a number: nobody past the last, and in a bank of more than 256
abbrev pub called : List Rule → ℕ → Rule
called rules i = cond (nat_le (length rules) 256) (slice_index_or rules i nobody) nobody

-- each rule of a list keeps the laws over every number of variables that it fits
abbrev pub Lawfully : List Rule → Type 0
Lawfully rules = (i n : ℕ) → (called rules i).fit n ≡ Ok tt → Lawful n (called rules i)

-- whether rule i watches one of a set of variables
unfoldable pub woken : List Rule → (ℕ → Bool) → ℕ → Bool
woken rules s i = some (λ x. s x && (called rules i).watches x) 256

-- what is left of a table: a rule that does not fit removes nothing
abbrev pub filtered : ℕ → Rule → Table → Table
filtered n r t = cond (is_ok (r.fit n)) (r.filter t) t

-- a set has exactly the variables whose domains got smaller
abbrev pub Names : List ℕ → Table → Table → Type 0
Names s before after = (x : ℕ) → in_set s x ≡ nat_lt (size_of (after x)) (size_of (before x))

-- what a run answers: which variables got smaller, as a set, or that no table without an empty domain is left
abbrev pub Ran : Type 0
Ran = Result (List ℕ) Failed

-- a run that did not fail names what got smaller
abbrev pub Named : Ran → Table → Table → Type 0
Named (Err _) before after = Unit {0}
Named (Ok s) before after = Names s before after

-- failed exactly where the filtered table is void; otherwise it is the table
abbrev pub Exact : ℕ → Table → Table → Ran → Type 0
Exact n left after (Err _) = is_void n left ≡ true
Exact n left after (Ok s) = (is_void n left ≡ false) × (after ≡ left)

-- A run of a rule on a table of n variables: what it answers and leaves.
pub record Run (n : ℕ) (r : Rule) (before : Table) (answer : Ran) (after : Table) : Type 0 where
  -- no domain is larger
  pub inside : Inside after before
  -- the answer names exactly what got smaller, unless it is failed
  pub named : Named answer before after
  -- on a table that is not void the answer is exact, and so is the table unless the run failed
  pub exact : is_void n before ≡ false → Exact n (filtered n r before) after answer
  -- a void table stays void
  pub void : is_void n before ≡ true → is_void n after ≡ true
