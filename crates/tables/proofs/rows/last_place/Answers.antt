use Rattle.std.proofs.Common.{◌≡◌, ℕ, ◌-◌, ◌*◌, ◌/◌, ◌+◌, ◌<◌, min, get_or, take, length, Some, sym, ap, subst, ◌∙◌, arith, rules}
use Rattle.std.specs.Option.{option_map}
use Rattle.std.proofs.lemmas.List.{length-take-le, get_or-take, length-append}
use Rattle.std.proofs.lemmas.Option.{IfSome_then}
use Rattle.tables.specs.Rows.{bit, Final}
use Rattle.tables.proofs.Finds.{Item, item_from, found, Final-from_Found}
use Rattle.tables.proofs.rows.last_place.Goals as goal

-- The calls of `next` behind those that `find_map` made, back to the slice.
pub returns : goal.returns
returns c =
    let row = c.args.row.now in
    let count = c.min-2.result in
    let run = c.find_map.ensures.runs in
    let rev = c.rev.ensures.runs run.0 run.0.seen run.1 in
    let enumerate = c.rev.ensures.runs_back rev.0 rev.0.seen rev.1 in
    let iter = c.iter.ensures.runs_back enumerate.1.0 enumerate.1.0.seen in
    let left : c.enumerate.result.iter.rest.now ≡ take count row = ap (λ i. i.rest.now) c.enumerate.ensures.source ∙ c.iter.ensures.rest in
    let rest : enumerate.1.0.from.rest.now ≡ take count row = ap (λ i. i.rest.now) enumerate.1.1 ∙ left in
    let full : length c.enumerate.result.iter.rest.now ≡ count = ap length left ∙ length-take-le count row (omega arith) in
    let long : length enumerate.1.0.from.rest.now ≡ count = ap length rest ∙ length-take-le count row (omega arith) in
    let numbers = enumerate.0 (λ s x t e. omega (arith, ap length e, length-append {A = ℕ})) in
    let items : (k : ℕ) → k < run.0.len → Item (λ x. x.0) (λ x. x.1.now) row (count - 1 - k) (run.0.at k) = λ k h.
    let i : ℕ = count - 1 - k in
    let same : length enumerate.1.0.from.rest.now - 1 - i ≡ k = omega (arith, iter.0) in
    let word = ap (option_map (λ y. y.now)) (sym (enumerate.1.2.0.2 k)) ∙ ap (λ n. option_map (λ y. y.now) (enumerate.1.0.at n)) (sym same) ∙ iter.2 i 0 (omega (arith, iter.0)) (omega arith)
    ∙ ap Some (ap (λ r. get_or r i 0) rest ∙ get_or-take count row i 0 (omega (arith, iter.0))) in
    subst (Item (λ x. x.0) (λ x. x.1.now) row i) (rev.2.0.2 k) (item_from row i (rev.0.at k) (IfSome_then (rev.0.at k) (numbers k) (λ x e. omega arith)) word) in
    Final-from_Found row c.args.end count run.0.len _ c.find_map.result (search rules) c.requires.within (c.min-2.ensures ∙ ap (λ n. min n (c.args.end / 64 + 1)) c.min.ensures) (omega (arith, iter.0)) (λ w. let whole = iter.1 (enumerate.1.2.1 ∙ rev.2.1 ∙ w) in omega arith)
    (found row (λ j w. Final (bit w) (c.args.end - 64 * j)) (λ x. x.0) (λ x. x.1.now) (λ k. count - 1 - k) run.0.len run.0.at items c.find_map.result _ _ _ _ run.2 (λ a r q k. search rules) (λ x k. search rules) (λ b x k. search rules))
