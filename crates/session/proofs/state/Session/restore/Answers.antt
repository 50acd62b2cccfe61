use Rattle.sessions.specs.declared.call.Call.TheVariants.{Restore}
use Rattle.session.specs.Answers.{answer_of_plain}
use Rattle.session.proofs.Promised.{step_keeps}
use Rattle.session.proofs.Stepping.{restore_step}
use Rattle.session.proofs.state.Session.restore.Goals as goal

pub returns : goal.returns
returns g c =
    let s = c.args.store.now in
    let b = c.args.bank.now in
    let step = restore_step (g.S.Domains.frame s) (g.B.Bank.rules b) _ _ c.try_restore.result c.try_restore.ensures.answer c.try_restore.ensures.after in
    record {
      step = step;
      promises = step_keeps (g.S.Domains.frame s) (g.B.Bank.rules b) (g.met.S.Domains.few s) (g.met.B.Bank.lawful b) Restore (answer_of_plain c.try_restore.result) _ _ step;
      refused = c.try_restore.ensures.refused;
      same_frame = c.try_restore.ensures.same_frame;
    }
