use Rattle.std.proofs.Common.{arith}
use Rattle.std.proofs.lemmas.Int.{ints, clamps}
use Rattle.tables.proofs.Places.{place_is}
use Rattle.tables.proofs.rows.places_below.Goals as goal

pub returns-clause-tells : goal.returns-clause-tells
returns-clause-tells c u h =
    let e = place_is u h in
    grind (arith, ints, clamps)
