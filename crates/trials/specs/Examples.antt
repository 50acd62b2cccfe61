-- A small table, and what the definitions say of it.
use Rattle.std.specs.Prelude.{◌≡◌, ℕ, zero, suc, true, false, ◌&&◌, ◌||◌, List, [], ◌∷◌, pos, negsuc, int_le}
use Rattle.tables.specs.Tables.{Table, size_of, is_void, Within, kept}

-- two variables: -2..3, and the two ends -512 and 511
abbrev pub small : Table
small zero v = int_le (negsuc 1) v && int_le v (pos 3)
small (suc zero) v = (int_le (negsuc 511) v && int_le v (negsuc 511)) || (int_le (pos 511) v && int_le v (pos 511))
small (suc (suc x)) v = false

-- the row of -1, 0 and 511: places 511, 512 and 1023
abbrev pub row : List ℕ
row = 0 ∷ 0 ∷ 0 ∷ 0 ∷ 0 ∷ 0 ∷ 0 ∷ 9223372036854775808 ∷ 1 ∷ 0 ∷ 0 ∷ 0 ∷ 0 ∷ 0 ∷ 0 ∷ 9223372036854775808 ∷ []

-- the sizes before and after a keep, and what is void
pub record Computes : Type 0 where
  pub first : size_of (small 0) ≡ 6
  pub second : size_of (small 1) ≡ 2
  pub outside : size_of (small 2) ≡ 0
  -- -1 and 0 are left of the first variable, 511 of the second
  pub kept_first : size_of (kept 0 row small 0) ≡ 2
  pub kept_second : size_of (kept 1 row small 1) ≡ 1
  pub kept_value : kept 1 row small 1 (pos 511) ≡ true
  pub kept_other : size_of (kept 0 row small 1) ≡ 2
  pub full : is_void 2 small ≡ false
  pub kept_full : is_void 2 (kept 0 row small) ≡ false
  pub void : is_void 2 (kept 1 [] small) ≡ true
  pub within : Within 2 (kept 1 [] small) (kept 0 [] small)
