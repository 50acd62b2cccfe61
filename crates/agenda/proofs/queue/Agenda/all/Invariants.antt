use Rattle.std.proofs.Common.{◌≡◌}
use Rattle.sessions.specs.Agendas.{upto}
use Rattle.agenda.specs.Meaning.{waits}
use Rattle.agenda.proofs.queue.Agenda.all.Given as goal

abbrev pub invariant-loop-rule : goal.invariant-loop-rule
invariant-loop-rule l = waits l.agenda ≡ upto l.rule
