use Rattle.std.proofs.Common.{◌≡◌, ◌++◌}
use Rattle.agenda.specs.Meaning.{waits}
use Rattle.agenda.proofs.queue.Agenda.append.Given as goal

abbrev pub invariant-loop-rule : goal.invariant-loop-rule
invariant-loop-rule l = waits l.self ≡ waits l.initial.self ++ l.yielded
