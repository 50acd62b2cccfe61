-- From the first and the last place of a row to the next and the last value of its domain.
use Rattle.std.proofs.Common.{◌≡◌, ℕ, ◌<◌, ◌≤◌, true, ltb, List, ℤ, Some, None, Option, ◌∙◌, arith}
use lib.Signed.{le_z, lt_z}
use Rattle.std.specs.Option.{option_map}
use Rattle.std.proofs.lemmas.Int.{ints}
use Rattle.std.proofs.lemmas.Bool.{and_parts}
use Rattle.tables.specs.Values.{is_value, place, value_at}
use Rattle.tables.specs.Rows.{at_place, in_row, First, Final}
use Rattle.tables.specs.Tables.{Next, Last}
use Rattle.tables.proofs.Places.{is_value_at, place_at, in_row_at, place_is}

module _ (row : List ℕ) (bound : ℤ) (s : ℕ) where
  -- what the first place says of the next value
  pub Next-from_First : (found : Option ℕ) → ((u : ℤ) → is_value u ≡ true → ltb (place u) s ≡ lt_z u bound) → First (at_place row) s 1024 found → Next (in_row row) bound (option_map (λ p. value_at p) found)
  Next-from_First None test f = λ u h. grind (arith, ints)
  Next-from_First (Some p) test f =
      let value = is_value_at p f.1 in
      let at = place_at p f.1 in
      let below = test (value_at p) value in
      record {
        reached = grind (arith, ints);
        member = in_row_at row p f.1 ∙ f.2;
        least = λ u h t. let b = and_parts (is_value u) (at_place row (place u)) t in let e = place_is u b.0 in let below = test u b.0 in grind (arith, ints);
      }

  -- what the last place says of the last value
  pub Last-from_Final : (found : Option ℕ) → s ≤ 1024 → ((u : ℤ) → is_value u ≡ true → ltb (place u) s ≡ le_z u bound) → Final (at_place row) s found → Last (in_row row) bound (option_map (λ p. value_at p) found)
  Last-from_Final None small test f = λ u h. grind (arith, ints)
  Last-from_Final (Some p) small test f =
      let within : p < 1024 = omega (arith, f.0) in
      let value = is_value_at p within in
      let at = place_at p within in
      let below = test (value_at p) value in
      record {
        reached = grind (arith, ints);
        member = in_row_at row p within ∙ f.1;
        greatest = λ u h t. let b = and_parts (is_value u) (at_place row (place u)) t in let e = place_is u b.0 in let below = test u b.0 in grind (arith, ints);
      }
