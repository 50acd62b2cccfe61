use Rattle.std.proofs.Common.{◌≡◌, ◌^◌, ◌≤◌, take, length, ◌∙◌, arith, rules}
use lib.Count.{ones}
use Rattle.std.specs.List.{sum_by}
use Rattle.std.proofs.lemmas.List.{length-take}
use Rattle.std.proofs.lemmas.Iterator.{YieldsList-from_slice, YieldsList-from_take, YieldsList-from_map}
use Rattle.std.proofs.lemmas.Iterator.Adapters.{fits_from_length, at_most_from_yields_List}
use Rattle.std.proofs.lemmas.Iterator.Consumers.{sum_by_from_yields_List}
use Rattle.tables.specs.Rows.{in_row}
use Rattle.tables.proofs.Counts.{size_by_words, size_le}
use Rattle.tables.proofs.rows.size.Goals as goal

pub sum-requires-clause-fits : goal.sum-requires-clause-fits
sum-requires-clause-fits c =
    let few : length (take 16 c.args.row.now) ≤ 16 = omega (arith, length-take 16 c.args.row.now) in
    fits_from_length _ _ 16 (2 ^ 64) (at_most_from_yields_List (YieldsList-from_take 16 (YieldsList-from_slice c.args.row.now cc) (cc)) few) c.map.ensures.closure (omega arith) (λ x r q k. search rules)

pub returns : goal.returns
returns c =
    let row = c.args.row.now in
    let total : c.sum.result ≡ sum_by (λ w. ones w) (take 16 row) =
    sum_by_from_yields_List (λ w. ones w) (take 16 row) c.map.result c.sum.result c.sum.ensures.ran (YieldsList-from_map _ (λ w. ones w) (YieldsList-from_take 16 (YieldsList-from_slice row cc) (cc)) c.map.ensures.closure (λ x r q k. search rules)) in
    let size = total ∙ size_by_words row (search rules) in
    let few = size_le (in_row row) in
    record { value = size; bound = omega arith }
