use Rattle.copying.proofs.Narrowed.{Met}
use Rattle.copying.proofs.store.Copying.meet.Given as goal

abbrev pub invariant-loop-k : goal.invariant-loop-k
invariant-loop-k l = Met l.k l.initial.word-items l.row l.word-items l.smaller l.empty
