use Rattle.std.proofs.Common.{◌≡◌, ℕ, ◌&&◌, ltb}
use Rattle.rules.specs.Banks.{in_set, woken}
use Rattle.rules.proofs.bank.Bank.woken.Given as goal

abbrev pub invariant-loop-rule : goal.invariant-loop-rule
invariant-loop-rule g l = (i : ℕ) → in_set l.set i ≡ (ltb i l.rule && woken (g.Self.Bank.rules l.self) (in_set l.changed) i)
