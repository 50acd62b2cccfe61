use Rattle.session.proofs.Promised.{begins_keeps}
use Rattle.session.proofs.state.Session.begin.Goals as goal

pub returns-clause-promises : goal.returns-clause-promises
returns-clause-promises g c =
    let s = c.args.store.now in
    let b = c.args.bank.now in
    begins_keeps (g.S.Domains.frame s) (g.B.Bank.rules b) (g.met.S.Domains.few s) (g.met.B.Bank.lawful b) (g.S.Domains.table s) (g.S.Domains.saved s) _ (g.met.S.Domains.shaped s) c.opened.ensures
