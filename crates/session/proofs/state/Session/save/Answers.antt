use Rattle.sessions.specs.declared.call.Call.TheVariants.{Save}
use Rattle.session.specs.Answers.{answer_of_plain}
use Rattle.session.proofs.Promised.{step_keeps}
use Rattle.session.proofs.Stepping.{save_step}
use Rattle.session.proofs.state.Session.save.Goals as goal

pub returns : goal.returns
returns g c =
    let s = c.args.store.now in
    let b = c.args.bank.now in
    let step = save_step (g.S.Domains.frame s) (g.B.Bank.rules b) _ _ c.try_save.result c.try_save.ensures.answer c.try_save.ensures.after in
    record {
      step = step;
      promises = step_keeps (g.S.Domains.frame s) (g.B.Bank.rules b) (g.met.S.Domains.few s) (g.met.B.Bank.lawful b) Save (answer_of_plain c.try_save.result) _ _ step;
      refused = c.try_save.ensures.refused;
      same_frame = c.try_save.ensures.same_frame;
    }
