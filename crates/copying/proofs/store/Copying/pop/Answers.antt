use Rattle.std.proofs.Common.{arith}
use Rattle.copying.proofs.Copies.{frame_stays, popped}
use Rattle.copying.proofs.store.Copying.pop.Goals as goal

pub returns-clause-back : goal.returns-clause-back
returns-clause-back c =
    let s = c.args.self.now in
    let did = c.copy.ensures in
    popped s.n s.most s.depth s.words.now s.room c.requires s.within did.sizes.0 did.sizes.2 did.words

pub returns-clause-same_frame : goal.returns-clause-same_frame
returns-clause-same_frame c =
    let s = c.args.self.now in
    let did = c.copy.ensures in
    frame_stays s.n s.most s.words.now s.room s.depth 0 s.within (omega arith) did.sizes.0 did.sizes.1 did.lent did.words
