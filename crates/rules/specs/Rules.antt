-- What a rule is, and the five laws that each rule owes.
use Rattle.std.specs.Prelude.{◌≡◌, ℕ, ◌<◌, Bool, true, false, ◌⊎◌, List, length, ℤ, pos, Result, slice_index_or}
use Rattle.tables.specs.Tables.{Table, Shaped, size_of, is_void, Within}
use Rattle.rules.specs.declared.fault.RuleFault.{RuleFault}

-- an assignment: one value for each variable, in their order
abbrev pub Assignment : Type 0
Assignment = List ℤ

-- the value of variable x
abbrev pub at : Assignment → ℕ → ℤ
at a x = slice_index_or a x (pos 0)

-- an assignment of n variables lies in a table: each value is in its domain
abbrev pub In : ℕ → Table → Assignment → Type 0
In n t a = (length a ≡ n) × ((x : ℕ) → x < n → t x (at a x) ≡ true)

-- two tables are the same, all void tables counting as one
abbrev pub Same : ℕ → Table → Table → Type 0
Same n d e = Within n d e × Within n e d

-- every one of the n domains has exactly one value
abbrev pub Single : ℕ → Table → Type 0
Single n d = (x : ℕ) → x < n → size_of (d x) ≡ 1

pub record Rule : Type 0 where
  -- whether it watches a variable
  pub watches : ℕ → Bool
  -- what it leaves of a table
  pub filter : Table → Table
  -- whether an assignment obeys it
  pub obeyed : Assignment → Bool
  -- whether it fits a number of variables, else the refusal
  pub fit : ℕ → Result (Unit {0}) RuleFault

-- two tables have the same domains at the variables that a rule watches
abbrev pub Agree : Rule → Table → Table → Type 0
Agree r d e = (x : ℕ) → r.watches x ≡ true → d x ≡ e x

-- The laws of a rule over the tables of n variables, which it fits.
pub record Lawful (n : ℕ) (r : Rule) : Type 0 where
  -- 1. Filtering adds nothing.
  pub shrinks : (d : Table) → Shaped n d → Within n (r.filter d) d
  -- 2. Of a smaller table no more is left than of a larger one.
  pub monotone : (d e : Table) → Shaped n d → Shaped n e → Within n d e → Within n (r.filter d) (r.filter e)
  -- 3. No assignment that obeys is lost.
  pub sound : (d : Table) → Shaped n d → (a : Assignment) → In n d a → r.obeyed a ≡ true → In n (r.filter d) a
  -- 4. Where every domain has one value and filtering changes nothing, that assignment obeys.
  pub decides : (d : Table) → Shaped n d → Single n d → Same n (r.filter d) d → (a : Assignment) → In n d a → r.obeyed a ≡ true
  -- 5. Only watched domains change, and what is left of these depends on these alone.
  pub outside : (d : Table) → Shaped n d → (x : ℕ) → r.watches x ≡ false → r.filter d x ≡ d x
  pub local : (d e : Table) → Shaped n d → Shaped n e → is_void n d ≡ false → is_void n e ≡ false → Agree r d e → ((is_void n (r.filter d) ≡ true) × (is_void n (r.filter e) ≡ true)) ⊎ Agree r (r.filter d) (r.filter e)
