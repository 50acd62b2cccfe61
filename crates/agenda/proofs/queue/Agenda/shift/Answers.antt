use Rattle.std.proofs.Common.{arith, rules}
use Rattle.agenda.proofs.Moves.{pop_is, pop_is_apart, pop_is_told}
use Rattle.agenda.proofs.queue.Agenda.shift.Goals as goal

pub invariant_of-self : goal.invariant_of-self
invariant_of-self c =
    let s = c.args.self.now in
    record {
      low = omega arith;
      few = omega arith;
      apart = pop_is_apart s.rules s.waiting s.first s.len s.low c.requires.some s.apart s.tells c.place-self.result c.place-self.ensures;
      tells = pop_is_told s.rules s.waiting s.first s.len s.low c.requires.some s.apart s.tells c.place-self.result c.place-self.ensures c.others-others.result c.others-others.ensures;
    }

pub returns : goal.returns
returns c =
    let s = c.args.self.now in
    record {
      first = pop_is s.rules s.waiting s.first s.len s.low c.requires.some s.apart s.tells c.place-self.result c.place-self.ensures;
      below = search rules;
    }
