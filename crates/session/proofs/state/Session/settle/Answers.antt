use Rattle.sessions.specs.declared.call.Call.TheVariants.{Settle}
use Rattle.session.specs.Answers.{answer_of_settle}
use Rattle.session.proofs.Promised.{step_keeps}
use Rattle.session.proofs.state.Session.settle.Goals as goal

pub returns-clause-promises : goal.returns-clause-promises
returns-clause-promises g c =
    let s = c.args.store.now in
    let b = c.args.bank.now in
    step_keeps (g.S.Domains.frame s) (g.B.Bank.rules b) (g.met.S.Domains.few s) (g.met.B.Bank.lawful b) Settle (answer_of_settle c.try_settle.result) _ _ c.try_settle.ensures.step
