use Rattle.std.proofs.Common.{length, sym, subst, ap, rules}
use Rattle.std.specs.Iterator.{YieldsFirst}
use Rattle.rules.specs.Sets.{members_left}
use Rattle.rules.proofs.Walks.{left_none, left_some}
use Rattle.rules.proofs.members.MembersIterator.next.Goals as goal

pub returns-in_err-k-clause-steps : goal.returns-in_err-k-clause-steps
returns-in_err-k-clause-steps c =
    let m = c.args.self.now in
    let none = left_none m c.in_err-k.ensures in
    subst (λ r. YieldsFirst members_left m r m) (sym c.from_residual.ensures) (none, none)

pub returns-clause-steps : goal.returns-clause-steps
returns-clause-steps c = left_some c.args.self.now c.in_ok-k.k c.in_ok-k.ensures

pub returns-clause-goes : goal.returns-clause-goes
returns-clause-goes c = let fewer = ap length (left_some c.args.self.now c.in_ok-k.k c.in_ok-k.ensures) in search rules
