use Rattle.std.proofs.Common.{sym, ap, ◌∙◌}
use Rattle.tables.specs.declared.kept.Kept.{Kept}
use Rattle.offsets.proofs.Narrows.{run_none_x, run_none_y, run_done}
use Rattle.offsets.proofs.narrow.Goals as goal

pub returns-then-at_x : goal.returns-then-at_x
returns-then-at_x g c = record {
  run = run_none_x c.args.o _ c.requires.fits _ c.args.left.x c.args.left.y c.requires.x c.requires.y _ c.keep-at_x.ensures.after (sym (ap (λ (k : Kept). k.empty) c.keep-at_x.ensures.answer) ∙ c.if-at_x.true) (record {});
  same_saved = c.keep-at_x.ensures.same_saved;
  same_frame = c.keep-at_x.ensures.same_frame;
}

pub returns-then-at_y : goal.returns-then-at_y
returns-then-at_y g c = record {
  run = run_none_y c.args.o _ c.requires.fits _ c.args.left.x c.args.left.y c.requires.x c.requires.y _ c.keep-at_x.ensures.after _ c.keep-at_y.ensures.after (sym (ap (λ (k : Kept). k.empty) c.keep-at_y.ensures.answer) ∙ c.if-at_y.true) (record {});
  same_saved = c.keep-at_y.ensures.same_saved ∙ c.keep-at_x.ensures.same_saved;
  same_frame = c.keep-at_y.ensures.same_frame ∙ c.keep-at_x.ensures.same_frame;
}

pub returns : goal.returns
returns g c = record {
  run = run_done c.args.o _ c.requires.fits _ c.args.left.x c.args.left.y c.requires.x c.requires.y _ c.keep-at_x.ensures.after _ c.keep-at_y.ensures.after (g.met.S.Domains.few c.args.store.now) (sym (ap (λ (k : Kept). k.empty) c.keep-at_x.ensures.answer) ∙ c.if-at_x.false) (sym (ap (λ (k : Kept). k.empty) c.keep-at_y.ensures.answer) ∙ c.if-at_y.false) c.smaller.result c.keep-at_x.result.smaller c.keep-at_y.result.smaller (ap (λ (k : Kept). k.smaller) c.keep-at_x.ensures.answer) (ap (λ (k : Kept). k.smaller) c.keep-at_y.ensures.answer) c.smaller.ensures;
  same_saved = c.keep-at_y.ensures.same_saved ∙ c.keep-at_x.ensures.same_saved;
  same_frame = c.keep-at_y.ensures.same_frame ∙ c.keep-at_x.ensures.same_frame;
}
