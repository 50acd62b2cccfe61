use Rattle.std.proofs.Common.{◌≡◌, ℕ, not, ◌&&◌, ◌||◌, eqb, ltb, sym, ap, ◌∙◌, rules}
use Rattle.tables.specs.declared.kept.Kept.{Kept}
use Rattle.tables.specs.Tables.{size_of}
use Rattle.rules.specs.Banks.{in_set}
use Rattle.filters.proofs.Runs.{running_more}
use Rattle.filters.proofs.narrow.Goals as goal
use Rattle.filters.proofs.narrow.Goals.{then-kept, else-kept}

pub returns-clause-running : goal.returns-clause-running
returns-clause-running g c found run some =
    let store = c.args.store.now in
    let now = g.S.Domains.table c.keep-kept.new.self in
    let answer = c.keep-kept.ensures.answer in
    let noted : (z : ℕ) → in_set c.if-kept.smaller z ≡ (in_set c.args.smaller.now z || (ltb (size_of (now c.args.x)) (size_of (g.S.Domains.table store c.args.x)) && (eqb z c.args.x && ltb c.args.x 256))) =
    elim c.if-kept.branch [ then-kept w ↦ λ z. search rules | else-kept w ↦ λ z. search rules ] in
    running_more _ (g.met.S.Domains.few store) (g.S.Domains.table store) (g.met.S.Domains.shaped store) c.args.x c.args.row _ c.keep-kept.ensures.after found c.args.smaller.now _ run
    (sym (ap (λ (k : Kept). not k.empty) answer) ∙ ap not c.if-kept-2.false) noted
