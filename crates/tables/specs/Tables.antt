-- Domains and tables, as functions that answer for each value and each variable.
use Rattle.std.specs.Prelude.{◌≡◌, ℕ, zero, suc, ◌+◌, ◌<◌, Bool, true, false, cond, not, ◌&&◌, ◌||◌, ◌⊎◌, List, [], ◌∷◌, ℤ, ◌≤ℤ◌, Some, None, Option, ◌==◌}
use Rattle.tables.specs.Values.{is_value, value_at}
use Rattle.tables.specs.Rows.{in_row}

-- a domain: which numbers are left
abbrev pub Domain : Type 0
Domain = ℤ → Bool

-- a table: the domain of each variable
abbrev pub Table : Type 0
Table = ℕ → Domain

-- how many numbers below n pass a test
abbrev pub count : (ℕ → Bool) → ℕ → ℕ
count p zero = 0
count p (suc n) = cond (p n) 1 0 + count p n

-- how many values a domain has: of the 1,024, those that are left
unfoldable pub size_of : Domain → ℕ
size_of d = count (λ p. d (value_at p)) 1024

-- a table of n variables has nothing but values, and nothing for other variables
abbrev pub Shaped : ℕ → Table → Type 0
Shaped n t = (x : ℕ) (v : ℤ) → t x v ≡ true → (x < n) × (is_value v ≡ true)

-- each of some tables is shaped
abbrev pub AllShaped : ℕ → List Table → Type 0
AllShaped n [] = Unit {0}
AllShaped n (t ∷ ts) = Shaped n t × AllShaped n ts

-- whether one of the first n variables has an empty domain
abbrev pub is_void : ℕ → Table → Bool
is_void zero t = false
is_void (suc n) t = size_of (t n) == 0 || is_void n t

-- each domain of d is a subset of that of e
abbrev pub Inside : Table → Table → Type 0
Inside d e = (x : ℕ) (v : ℤ) → d x v ≡ true → e x v ≡ true

-- the same, where all void tables count as one that lies inside every table
abbrev pub Within : ℕ → Table → Table → Type 0
Within n d e = (is_void n d ≡ true) ⊎ Inside d e

-- the table in which x keeps only the values of a row
abbrev pub kept : ℕ → List ℕ → Table → Table
kept x row t y v = t y v && (not (y == x) || in_row row v)

-- v is the least number of d at or above from
pub record Least (d : Domain) (from v : ℤ) : Type 0 where
  pub reached : from ≤ℤ v
  pub member : d v ≡ true
  pub least : (u : ℤ) → from ≤ℤ u → d u ≡ true → v ≤ℤ u

-- v is the greatest number of d at or below upto
pub record Greatest (d : Domain) (upto v : ℤ) : Type 0 where
  pub reached : v ≤ℤ upto
  pub member : d v ≡ true
  pub greatest : (u : ℤ) → u ≤ℤ upto → d u ≡ true → u ≤ℤ v

-- the answer to: which is the next number of d at or above from, if there is one
abbrev pub Next : Domain → ℤ → Option ℤ → Type 0
Next d from None = (u : ℤ) → from ≤ℤ u → d u ≡ false
Next d from (Some v) = Least d from v

-- the answer to: which is the last number of d at or below upto, if there is one
abbrev pub Last : Domain → ℤ → Option ℤ → Type 0
Last d upto None = (u : ℤ) → u ≤ℤ upto → d u ≡ false
Last d upto (Some v) = Greatest d upto v
