use Rattle.std.proofs.Common.{true, ap, ◌∙◌, arith, rules}
use Rattle.sessions.specs.Agendas.{member}
use Rattle.agenda.proofs.Lists.{select_past}
use Rattle.agenda.proofs.queue.Agenda.all.Goals as goal

pub push-requires : goal.push-requires
push-requires c =
    let rule = c.loop-rule.rule in
    record {
      below = search rules;
      new = ap (member rule) c.loop-rule.invariant ∙ select_past (λ _. true) rule rule (omega arith);
    }
