-- What the rule x = y + c means.
use Rattle.std.specs.Prelude.{ℕ, Bool, cond, not, ◌&&◌, ◌||◌, ℤ, pos, negsuc, ◌+ℤ◌, ◌-ℤ◌, Ok, Err, ◌==◌, int_le, nat_lt}
use Rattle.tables.specs.Values.{equal_int}
use Rattle.tables.specs.Tables.{Table}
use Rattle.rules.specs.declared.fault.RuleFault.TheVariants.{Variable, Value}
use Rattle.rules.specs.Rules.{Rule, at}
use Rattle.offsets.specs.declared.rule.Offset.{Offset}

-- what is left of a table: v stays in x exactly if v - c is in y, and w stays in y exactly if w + c is in x, both by the table as it was
abbrev pub shifted : ℕ → ℕ → ℤ → Table → Table
shifted x y c t z v = t z v && ((not (z == x) || t y (v -ℤ c)) && (not (z == y) || t x (v +ℤ c)))

-- whether c lies from -1,023 to 1,023 (`negsuc 1022` is -1,023)
abbrev pub in_reach : ℤ → Bool
in_reach c = int_le (negsuc 1022) c && int_le c (pos 1023)

-- the rule x = y + c
abbrev pub offset : Offset → Rule
offset o = record {
  watches = λ z. (z == o.x) || (z == o.y);
  filter = shifted o.x o.y o.c;
  obeyed = λ a. equal_int (at a o.x) (at a o.y +ℤ o.c);
  fit = λ n. cond (nat_lt o.x n && nat_lt o.y n) (cond (in_reach o.c) (Ok tt) (Err Value)) (Err Variable);
}
