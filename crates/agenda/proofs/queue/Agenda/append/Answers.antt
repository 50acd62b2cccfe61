use Rattle.std.proofs.Common.{ℕ, List, ◌++◌, sym, ap, ◌∙◌}
use Rattle.std.proofs.lemmas.List.{append-nil}
use Rattle.rules.specs.Sets.{members_left}
use Rattle.rules.proofs.Walks.{given}
use Rattle.sessions.specs.Agendas.{member}
use Rattle.agenda.specs.Meaning.{waits}
use Rattle.agenda.proofs.Moves.{join_next, join_all}
use Rattle.agenda.proofs.queue.Agenda.append.Goals as goal

pub push-requires : goal.push-requires
push-requires c =
    let start = sym c.members-rule-items.ensures ∙ ap members_left (sym c.into_iter-rule-iterator.ensures.into_iter_gives) in
    let at = start ∙ given c.loop-rule.yielded _ c.loop-rule.rule-iterator c.loop-rule.yielded_by ∙ ap (λ (xs : List ℕ). c.loop-rule.yielded ++ xs) c.in-Some.ensures.steps in
    let next = join_next c.args.new (waits c.args.self.now) c.requires.none c.loop-rule.yielded _ c.in-Some.rule at in
    record { below = next.0; new = ap (member c.in-Some.rule) c.loop-rule.invariant ∙ next.1 }

pub returns : goal.returns
returns c s made =
    let start = sym c.members-rule-items.ensures ∙ ap members_left (sym c.into_iter-rule-iterator.ensures.into_iter_gives) in
    let all = start ∙ given c.loop-rule.yielded _ c.loop-rule.rule-iterator c.loop-rule.yielded_by ∙ ap (λ (xs : List ℕ). c.loop-rule.yielded ++ xs) c.in-None.ensures.steps.0 ∙ append-nil c.loop-rule.yielded in
    c.loop-rule.invariant ∙ ap (λ (xs : List ℕ). waits c.args.self.now ++ xs) (sym all) ∙ join_all c.args.new (waits c.args.self.now) s made
