use Rattle.std.proofs.Common.{◌≡◌, arith}
use Rattle.std.proofs.lemmas.Bool.Decides.{nat_tests}
use Rattle.tables.specs.Tables.{size_of}
use Rattle.tables.proofs.Counts.{size_none}
use Rattle.tables.proofs.Keeps.{kept_is, nothing_outside}
use Rattle.copying.specs.Memory.{table_in}
use Rattle.copying.specs.Facts.{table_shaped}
use Rattle.copying.proofs.CopyingDomains.keep.Goals as goal

pub returns-then-x-self-clause-answer : goal.returns-then-x-self-clause-answer
returns-then-x-self-clause-answer c =
    let s = c.args.self.now in
    let t = table_in s.n 0 s.words.now in
    let none : size_of (t c.args.x) ≡ 0 = size_none (t c.args.x) (λ v h. nothing_outside s.n t (table_shaped s.n 0 s.words.now) c.args.x c.if-x-self.true v) in
    kept_is _ _ (grind (arith, nat_tests)) (grind (arith, nat_tests))
