use Rattle.std.proofs.Common.{not, ltb, Err, None, sym, refl, ap, subst, ◌∙◌}
use Rattle.std.proofs.lemmas.Result.{err_from_is_err_and}
use Rattle.sessions.specs.declared.fault.SessionFault.TheVariants as fault
use Rattle.sessions.specs.Worlds.{is_failed, when}
use Rattle.session.specs.Answers.{answer_of_order, verdict}
use Rattle.session.specs.Meaning.{world, IsOrder, Steps}
use Rattle.session.proofs.Stepping.{order_refused, order_unfit, order_done, row_there, row_none}
use Rattle.session.proofs.state.Session.order.Goals as goal

pub returns-in_err-admit-clause-step : goal.returns-in_err-admit-clause-step
returns-in_err-admit-clause-step g c call is =
    let s = c.args.store.now in
    let w = world c.args.self.now (g.S.Domains.table s) (g.S.Domains.saved s) in
    let told = sym c.in_err-admit.was ∙ c.admit.ensures ∙ ap (λ m. verdict (when (is_failed c.args.self.now.standing) fault.Failed (when (not (ltb c.args.x m)) fault.Variable None))) c.variables.ensures.value in
    let p = err_from_is_err_and c.from_residual.result c.from_residual.ensures.1 in
    subst (λ r. Steps (g.S.Domains.frame s) (g.B.Bank.rules c.args.bank.now) call (answer_of_order r) w w) (sym p.1)
    (order_refused (g.S.Domains.frame s) (g.B.Bank.rules c.args.bank.now) call c.args.x w c.args.row is w p.0 (ap Err p.2 ∙ told) refl)

pub returns-in_err-row-clause-step : goal.returns-in_err-row-clause-step
returns-in_err-row-clause-step g c call is =
    let s = c.args.store.now in
    let w = world c.args.self.now (g.S.Domains.table s) (g.S.Domains.saved s) in
    let told = sym c.in_ok-admit.was ∙ c.admit.ensures ∙ ap (λ m. verdict (when (is_failed c.args.self.now.standing) fault.Failed (when (not (ltb c.args.x m)) fault.Variable None))) c.variables.ensures.value in
    let p = err_from_is_err_and c.from_residual-in_err-row.result c.from_residual-in_err-row.ensures.1 in
    let none = row_none c.args.row fault.Value _ (sym c.ok_or.ensures.value ∙ c.in_err-row.was) in
    subst (λ r. Steps (g.S.Domains.frame s) (g.B.Bank.rules c.args.bank.now) call (answer_of_order r) w w) (sym (p.1 ∙ ap Err (p.2 ∙ none.1)))
    (order_unfit (g.S.Domains.frame s) (g.B.Bank.rules c.args.bank.now) call c.args.x w (subst (λ o. IsOrder (g.S.Domains.frame s).vars call c.args.x o (g.S.Domains.table s)) none.0 is) w tt told refl)

pub returns : goal.returns
returns g c =
    let s = c.args.store.now in
    let w = world c.args.self.now (g.S.Domains.table s) (g.S.Domains.saved s) in
    let told = sym c.in_ok-admit.was ∙ c.admit.ensures ∙ ap (λ m. verdict (when (is_failed c.args.self.now.standing) fault.Failed (when (not (ltb c.args.x m)) fault.Variable None))) c.variables.ensures.value in
    let there = row_there c.args.row fault.Value c.in_ok-row.row (sym c.ok_or.ensures.value ∙ c.in_ok-row.was) in
    record {
      step = λ call is. order_done (g.S.Domains.frame s) (g.B.Bank.rules c.args.bank.now) call c.args.x w c.in_ok-row.row (subst (λ o. IsOrder (g.S.Domains.frame s).vars call c.args.x o (g.S.Domains.table s)) there is) _ c.perform.result tt told c.perform.ensures.world c.perform.ensures.answer;
      refused = tt;
      same_frame = c.perform.ensures.same_frame;
    }
