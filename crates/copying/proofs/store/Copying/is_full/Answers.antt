use Rattle.std.proofs.Common.{arith}
use Rattle.std.proofs.lemmas.Bool.Decides.{nat_tests}
use Rattle.copying.specs.Facts.{length_saved}
use Rattle.copying.proofs.store.Copying.is_full.Goals as goal

pub returns-clause-value : goal.returns-clause-value
returns-clause-value c = let s = c.args.self.now in let l = length_saved s.n s.depth s.words.now in grind (arith, nat_tests)
