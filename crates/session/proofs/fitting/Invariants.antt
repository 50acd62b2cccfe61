use Rattle.std.proofs.Common.{◌≡◌, drop, Option}
use Rattle.sessions.specs.declared.fault.SessionFault.{SessionFault}
use Rattle.sessions.specs.Worlds.{unfit}
use Rattle.session.proofs.fitting.Given as goal

abbrev pub invariant-loop-rule : goal.invariant-loop-rule
invariant-loop-rule g l = (rest : Option SessionFault) → unfit l.n 0 (g.B.Bank.rules l.bank) rest ≡ unfit l.n l.rule-counter (drop l.rule-counter (g.B.Bank.rules l.bank)) rest
