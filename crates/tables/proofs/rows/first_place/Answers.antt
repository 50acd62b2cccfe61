use Rattle.std.proofs.Common.{◌≡◌, ℕ, ◌+◌, ◌<◌, get_or, Some, ap, ◌∙◌, arith, rules}
use Rattle.std.proofs.iter.runs.Sources.{range_runs}
use Rattle.tables.specs.Rows.{bit, First}
use Rattle.tables.proofs.Finds.{Item, item_at, found, First-from_Found}
use Rattle.tables.proofs.rows.first_place.Goals as goal

-- The numbers of the words that `find_map` went over count up from the first.
pub returns : goal.returns
returns c =
    let row = c.args.row.now in
    let s = c.args.start in
    let run = c.find_map.ensures.runs in
    let counts = range_runs run.0 run.0.seen in
    let start : run.0.from.start ≡ s = ap (λ r. r.start) run.1 in
    let end : run.0.from.end ≡ c.min.result = ap (λ r. r.end) run.1 in
    let items : (k : ℕ) → k < run.0.len → Item (λ j. j) (λ j. get_or row j 0) row (s + k) (run.0.at k) = λ k h. item_at row (s + k) (run.0.at k) (counts.3 k h ∙ ap (λ a. Some (a + k)) start) in
    First-from_Found row s run.0.len _ c.find_map.result (λ k l. omega (arith, counts.0)) (λ w k l h. omega (arith, counts.1 w))
    (found row (λ j w. First (bit w) 0 64) (λ j. j) (λ j. get_or row j 0) (λ k. s + k) run.0.len run.0.at items c.find_map.result _ _ _ _ run.2 (λ a r q k. search rules) (λ x k. search rules) (λ b x k. search rules))
