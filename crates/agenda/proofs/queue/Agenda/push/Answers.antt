use Rattle.std.proofs.Common.{◌≡◌, length, rules}
use Rattle.agenda.proofs.Moves.{push_is, push_few, push_is_apart, push_is_told}
use Rattle.agenda.proofs.queue.Agenda.push.Goals as goal

pub invariant_of-self : goal.invariant_of-self
invariant_of-self c =
    let s = c.args.self.now in
    let full : length s.rules ≡ 256 = search rules in
    let four : length s.waiting ≡ 4 = search rules in
    record {
      low = s.low;
      few = push_few s.rules s.waiting s.first s.len c.args.rule full four s.apart s.tells c.requires.below c.requires.new c.place-at.result c.place-at.ensures;
      apart = push_is_apart s.rules s.waiting s.first s.len c.args.rule full four s.apart s.tells c.requires.below c.requires.new c.place-at.result c.place-at.ensures;
      tells = push_is_told s.rules s.waiting s.first s.len c.args.rule full four s.apart s.tells c.requires.below c.requires.new c.place-at.result c.place-at.ensures c.insert.new.set c.insert.ensures;
    }

pub returns : goal.returns
returns c =
    let s = c.args.self.now in
    let full : length s.rules ≡ 256 = search rules in
    let four : length s.waiting ≡ 4 = search rules in
    push_is s.rules s.waiting s.first s.len c.args.rule full four s.apart s.tells c.requires.below c.requires.new c.place-at.result c.place-at.ensures
