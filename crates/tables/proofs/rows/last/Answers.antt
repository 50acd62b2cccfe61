use Rattle.std.proofs.Common.{◌≡◌, sym, subst, arith}
use Rattle.std.specs.Option.{option_map}
use Rattle.std.proofs.lemmas.Grind.{common_steps}
use Rattle.std.proofs.lemmas.Int.{to_z-of_z}
use Rattle.tables.specs.Values.{value_at}
use Rattle.tables.specs.Rows.{in_row}
use Rattle.tables.specs.Tables.{Last}
use Rattle.tables.proofs.Ends.{Last-from_Final}
use Rattle.tables.proofs.rows.last.Goals as goal

pub returns-clause-value : goal.returns-clause-value
returns-clause-value c =
    let fits = c.ranges.upto in
    let test = simp to_z-of_z at c.places_upto.ensures.tells in
    let e : c.map.result ≡ option_map (λ p. value_at p) c.last_place.result = grind (arith, common_steps) in
    subst (Last (in_row c.args.row.now) c.args.upto) (sym e) (Last-from_Final c.args.row.now c.args.upto _ _ c.places_upto.ensures.small test c.last_place.ensures)
