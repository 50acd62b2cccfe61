use Rattle.std.proofs.Common.{rules}
use Rattle.rules.specs.Banks.{in_set}
use Rattle.rules.proofs.Numbers.{woken_all}
use Rattle.rules.proofs.bank.Bank.woken.Goals as goal

pub returns : goal.returns
returns g c = woken_all (g.Self.Bank.rules c.args.self.now) (in_set c.args.changed) c.loop-rule.set c.loop-rule.rule c.loop-rule.invariant (search rules)
