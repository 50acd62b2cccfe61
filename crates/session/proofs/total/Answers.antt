use Rattle.std.proofs.Common.{ap, refl, ◌∙◌, arith, rules}
use Rattle.std.specs.List.{range_with_len}
use Rattle.std.proofs.lemmas.Iterator.{YieldsList-from_range, YieldsList-from_map}
use Rattle.std.proofs.lemmas.Iterator.Consumers.{YieldsList-at, sum_by_from_yields_List, fits_by_from_yields_list}
use Rattle.tables.specs.Tables.{size_of}
use Rattle.sessions.specs.Steps.{values}
use Rattle.session.proofs.Counting.{sum_values}
use Rattle.session.proofs.Turning.{values_le}
use Rattle.session.proofs.total.Goals as goal

pub sum-requires-clause-fits : goal.sum-requires-clause-fits
sum-requires-clause-fits g c =
    let t = g.S.Domains.table c.args.store.now in
    let n = c.variables.result in
    let all = sum_values t n in
    let few = c.variables.ensures.bound in
    let most = values_le n t in
    fits_by_from_yields_list (λ x. size_of (t x)) (range_with_len 0 n) c.map.result _ (YieldsList-from_map _ (λ x. size_of (t x)) (YieldsList-at c.map.ensures.source (YieldsList-from_range 0 n n refl (omega arith))) c.map.ensures.closure (λ x r q k. search rules)) (omega arith)

pub returns : goal.returns
returns g c =
    let t = g.S.Domains.table c.args.store.now in
    let n = c.variables.result in
    let all = sum_values t n in
    let few = c.variables.ensures.bound in
    let most = values_le n t in
    let is = sum_by_from_yields_List (λ x. size_of (t x)) (range_with_len 0 n) c.map.result c.sum.result c.sum.ensures.ran (YieldsList-from_map _ (λ x. size_of (t x)) (YieldsList-at c.map.ensures.source (YieldsList-from_range 0 n n refl (omega arith))) c.map.ensures.closure (λ x r q k. search rules)) in
    let frame = c.variables.ensures.value in record { value = is ∙ all ∙ ap (λ m. values m t) frame; bound = omega arith }
