-- What the rules T[y] = z and T[x][y] = z mean.
use Rattle.std.specs.Prelude.{ℕ, ◌+◌, ◌*◌, Bool, true, false, cond, not, ◌&&◌, ◌||◌, List, [], ◌∷◌, map, length, ℤ, pos, negsuc, Ok, Err, ◌==◌, int_le, nat_le, nat_lt, slice_index_or}
use Rattle.tables.specs.Values.{is_value, equal_int}
use Rattle.tables.specs.Tables.{Domain, Table}
use Rattle.rules.specs.declared.fault.RuleFault.TheVariants.{Variable, Value, Length}
use Rattle.rules.specs.Rules.{Rule, at}
use Rattle.rules.specs.Banks.{some}
use Rattle.filters.specs.Ends.{least, greatest}
use Rattle.elements.specs.declared.rule.Element.{Element}
use Rattle.elements.specs.declared.rule.Element.TheVariants.{ByIndex, ByCell}
use Rattle.elements.specs.declared.rule.Lookup.{Lookup}
use Rattle.elements.specs.declared.rule.Matrix.{Matrix}

-- a number is an index below k, and passes a test as such
abbrev pub at_index : ℕ → (ℕ → Bool) → ℤ → Bool
at_index k p (pos i) = nat_lt i k && p i
at_index k p (negsuc i) = false

-- every number of a list is a value
abbrev pub are_values : List ℤ → Bool
are_values [] = true
are_values (v ∷ vs) = is_value v && are_values vs

-- ---- T[y] = z

-- i stays in y exactly if it is an index and its constant is in z
abbrev pub chosen : ℕ → ℕ → List ℤ → Table → Table
chosen y z T t u w = t u w && (not (u == y) || at_index (length T) (λ i. t z (slice_index_or T i (pos 0))) w)

-- v is the constant of an index that a domain has
abbrev pub reached : List ℤ → Domain → ℤ → Bool
reached T d v = some (λ i. d (pos i) && equal_int (slice_index_or T i (pos 0)) v) (length T)

-- v stays in z exactly if it is the constant of an index left in y
abbrev pub reachable : ℕ → ℕ → List ℤ → Table → Table
reachable y z T t u w = t u w && (not (u == z) || reached T (t y) w)

-- what is left of a table: first y is filtered, then z by what is left in y
abbrev pub looked : ℕ → ℕ → List ℤ → Table → Table
looked y z T t = reachable y z T (chosen y z T t)

-- the rule T[y] = z over 1 to 64 constants
abbrev pub lookup : Lookup → Rule
lookup e = record {
  watches = λ u. (u == e.y) || (u == e.z);
  filter = looked e.y e.z e.constants.now;
  obeyed = λ a. at_index (length e.constants.now) (λ i. equal_int (slice_index_or e.constants.now i (pos 0)) (at a e.z)) (at a e.y);
  fit = λ n. cond (nat_lt e.y n && nat_lt e.z n) (cond (are_values e.constants.now) (cond (nat_le 1 (length e.constants.now) && nat_le (length e.constants.now) 64) (Ok tt) (Err Length)) (Err Value)) (Err Variable);
}

-- ---- T[x][y] = z

-- the number in row i and column j, where the cells stand row by row
abbrev pub cell : List ℤ → ℕ → ℕ → ℕ → ℤ
cell T columns i j = slice_index_or T (i * columns + j) (pos 0)

-- a cell is live if its row is in x, its column in y, and its number lies from lo to hi, the least and the greatest value of z
abbrev pub live : Matrix → Table → ℤ → ℤ → ℕ → ℕ → Bool
live m t lo hi i j = (t m.x (pos i) && t m.y (pos j)) && (int_le lo (cell m.cells.now m.columns i j) && int_le (cell m.cells.now m.columns i j) hi)

-- row i has a live cell; column j has one
abbrev pub live_row : Matrix → Table → ℤ → ℤ → ℕ → Bool
live_row m t lo hi i = some (λ j. live m t lo hi i j) m.columns

abbrev pub live_column : Matrix → Table → ℤ → ℤ → ℕ → Bool
live_column m t lo hi j = some (λ i. live m t lo hi i j) m.rows

-- some live number passes a test
abbrev pub live_number : Matrix → Table → ℤ → ℤ → (ℤ → Bool) → Bool
live_number m t lo hi p = some (λ i. some (λ j. live m t lo hi i j && p (cell m.cells.now m.columns i j)) m.columns) m.rows

-- what is left of a table, all by the table as it was: i stays in x exactly if row i has a live cell, y's columns alike, and z keeps the values from the least to the greatest live number,
-- which are those that some live number does not pass and that do not pass some live number
abbrev pub crossed : Matrix → Table → Table
crossed m t = let lo : ℤ = least (t m.z) in let hi : ℤ = greatest (t m.z) in
    λ u w. t u w
    && ((not (u == m.x) || at_index m.rows (live_row m t lo hi) w)
    && ((not (u == m.y) || at_index m.columns (live_column m t lo hi) w)
    && (not (u == m.z) || (live_number m t lo hi (λ k. int_le k w) && live_number m t lo hi (λ k. int_le w k)))))

-- a side of a matrix has 1 to 32 places
abbrev pub is_side : ℕ → Bool
is_side k = nat_le 1 k && nat_le k 32

-- the rule T[x][y] = z over 1 to 32 rows and columns
abbrev pub matrix : Matrix → Rule
matrix m = record {
  watches = λ u. (u == m.x) || (u == m.y || u == m.z);
  filter = crossed m;
  obeyed = λ a. at_index m.rows (λ i. at_index m.columns (λ j. equal_int (cell m.cells.now m.columns i j) (at a m.z)) (at a m.y)) (at a m.x);
  fit = λ n. cond (nat_lt m.x n && (nat_lt m.y n && nat_lt m.z n)) (cond (are_values m.cells.now) (cond (is_side m.rows && (is_side m.columns && length m.cells.now == m.rows * m.columns)) (Ok tt) (Err Length)) (Err Value)) (Err Variable);
}

-- ---- rules of both kinds

abbrev pub element : Element → Rule
element (ByIndex e) = lookup e
element (ByCell m) = matrix m

-- the rules of a list, in its order
abbrev pub rules_of : List Element → List Rule
rules_of es = map element es
