use Rattle.std.proofs.Common.{◌≡◌, sym, subst, arith}
use Rattle.std.specs.Option.{option_map}
use Rattle.std.proofs.lemmas.Grind.{common_steps}
use Rattle.std.proofs.lemmas.Int.{to_z-of_z}
use Rattle.tables.specs.Values.{value_at}
use Rattle.tables.specs.Rows.{in_row}
use Rattle.tables.specs.Tables.{Next}
use Rattle.tables.proofs.Ends.{Next-from_First}
use Rattle.tables.proofs.rows.next.Goals as goal

pub returns-clause-value : goal.returns-clause-value
returns-clause-value c =
    let fits = c.ranges.from in
    let test = simp to_z-of_z at c.places_below.ensures.tells in
    let e : c.map.result ≡ option_map (λ p. value_at p) c.next_place.result = grind (arith, common_steps) in
    subst (Next (in_row c.args.row.now) c.args.from) (sym e) (Next-from_First c.args.row.now c.args.from _ _ test c.next_place.ensures)
