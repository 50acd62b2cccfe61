use Rattle.std.proofs.Common.{◌+◌, ◌∙◌, ap₂, arith}
use Rattle.copying.specs.Memory.{table_in}
use Rattle.copying.proofs.Copies.{table_stays, frame_stays, pushed}
use Rattle.copying.proofs.store.Copying.push.Goals as goal

pub returns-clause-noted : goal.returns-clause-noted
returns-clause-noted c =
    let s = c.args.self.now in
    let did = c.copy.ensures in
    pushed s.n s.most s.depth s.words.now s.room c.requires did.sizes.0 did.sizes.2 did.words

pub returns-clause-same_table : goal.returns-clause-same_table
returns-clause-same_table c =
    let s = c.args.self.now in
    let did = c.copy.ensures in
    ap₂ (λ n us. table_in n 0 us) did.sizes.0 did.words ∙ table_stays s.n s.most s.words.now s.room 0 (s.depth + 1) (omega arith) (omega arith) 0 (omega arith) (λ e. omega arith)

pub returns-clause-same_frame : goal.returns-clause-same_frame
returns-clause-same_frame c =
    let s = c.args.self.now in
    let did = c.copy.ensures in
    frame_stays s.n s.most s.words.now s.room 0 (s.depth + 1) (omega arith) (omega arith) did.sizes.0 did.sizes.1 did.lent did.words
