use Rattle.std.proofs.Common.{◌≡◌, ◌+◌, ◌-◌, ◌*◌, ltb, length, sym, refl, ap, ◌∙◌, arith, rules}
use borrow.Rule.Slice.PartMut.{put_mid}
use Rattle.std.proofs.lemmas.List.{length-take, length-drop}
use Rattle.std.proofs.lemmas.Bool.{cond-true, lt-ltb}
use Rattle.tables.specs.Tables.{Table}
use Rattle.tables.specs.Stores.{answer_keep}
use Rattle.copying.specs.Memory.{frame_in, row_in, table_in, saved_in}
use Rattle.copying.proofs.Meets.{Fit}
use Rattle.copying.proofs.Narrowed.{Met, met_more, met_words, fit, met_row, is_narrowed, keeps_table, keeps_saved, keeps_frame, answered}
use Rattle.copying.proofs.store.Copying.meet.Goals as goal

pub loop-k-preserved : goal.loop-k-preserved
loop-k-preserved c =
    let wide : length c.args.row ≡ 16 = search rules in
    met_more _ _ _ _ _ _ c.loop-k-test.true (simp length-take (omega arith)) (search rules) c.loop-k.invariant

pub returns : goal.returns
returns c =
    let s = c.args.self.now in
    let x = c.args.x in
    let row = c.args.row in
    let ws = s.words.now in
    let us = c.loop-k.word-items in
    let below = c.requires in
    let wide : length row ≡ 16 = search rules in
    let size : 16 * x + 16 - 16 * x ≡ 16 = omega arith in
    let long = simp (length-take, length-drop) at c.loop-k-test.false in
    let full : c.loop-k.k ≡ 16 = omega (arith, fit s.n s.most x ws row below s.room wide) in
    let met : Met 16 (row_in (16 * x) ws) row us c.loop-k.smaller c.loop-k.empty = met_row s.n s.most x ws row below s.room wide _ _ _ _ _ _ (omega arith) (omega arith) full c.loop-k.invariant in
    let fits : Fit row = λ j h. search rules in
    let mem : put_mid (16 * x) (16 * x + 16 - 16 * x) ws us ≡ met_words x row ws = rw size (is_narrowed s.n s.most x ws row below s.room wide us met.words) in
    let table = ap (table_in s.n 0) mem in
    record {
      after = table ∙ keeps_table s.n s.most x ws row below s.room wide;
      answer = answered s.n s.most x ws row below s.room wide us _ _ fits met ∙ sym (ap (λ (t : Table). answer_keep (table_in s.n 0 ws x) (t x)) table);
      same_saved = ap (saved_in s.n s.depth) mem ∙ keeps_saved s.n s.most x ws row below s.room wide s.depth s.within;
      same_frame = ap (frame_in s.n s.most s.words.ghost_name) mem ∙ keeps_frame s.n s.most x ws row below s.room wide s.words.ghost_name;
      memory = (mem ∙ sym (cond-true (ltb x s.n) _ _ (lt-ltb x s.n below)), refl);
    }
