use Rattle.std.proofs.Common.{not, ltb, Err, None, sym, refl, ap, subst, ◌∙◌, rules}
use Rattle.std.proofs.lemmas.Result.{err_from_is_err_and}
use Rattle.tables.specs.Values.{is_value}
use Rattle.sessions.specs.declared.fault.SessionFault.TheVariants as fault
use Rattle.sessions.specs.Worlds.{is_failed, when}
use Rattle.session.specs.Meaning.{world, Steps}
use Rattle.std.proofs.lemmas.Int.{to_z-of_z}
use Rattle.sessions.specs.declared.call.Call.TheVariants.{Strike}
use Rattle.session.specs.Answers.{answer_of_order, verdict}
use Rattle.session.proofs.Promised.{step_keeps}
use Rattle.session.proofs.Stepping.{order_barred, is_strike}
use Rattle.session.proofs.state.Session.strike.Goals as goal

-- The order is barred before any row is made.
pub returns-in_err-admit : goal.returns-in_err-admit
returns-in_err-admit g c =
    let s = c.args.store.now in
    let b = c.args.bank.now in
    let w = world c.args.self.now (g.S.Domains.table s) (g.S.Domains.saved s) in
    let call = Strike c.args.x c.args.v in
    let told = sym c.in_err-admit.was ∙ c.admit.ensures ∙ ap (λ m. verdict (when (is_failed c.args.self.now.standing) fault.Failed (when (not (ltb c.args.x m)) fault.Variable None))) c.variables.ensures.value in
    let p = err_from_is_err_and c.from_residual.result c.from_residual.ensures.1 in
    let step = subst (λ r. Steps (g.S.Domains.frame s) (g.B.Bank.rules b) call (answer_of_order r) w w) (sym p.1)
    (order_barred (g.S.Domains.frame s) (g.B.Bank.rules b) call c.args.x w (when (not (is_value c.args.v)) fault.Value None) refl w p.0 (ap Err p.2 ∙ told) refl) in
    record {
      step = step;
      promises = step_keeps (g.S.Domains.frame s) (g.B.Bank.rules b) (g.met.S.Domains.few s) (g.met.B.Bank.lawful b) call (answer_of_order _) w w step;
      refused = search rules;
      same_frame = refl;
    }

pub returns : goal.returns
returns g c =
    let s = c.args.store.now in
    let b = c.args.bank.now in
    let fits = c.ranges.v in
    let row = simp to_z-of_z at c.all_but.ensures in
    let call = Strike c.args.x c.args.v in
    let step = c.order.ensures.step call (is_strike (g.S.Domains.frame s).vars c.args.x c.args.v c.all_but.result (g.S.Domains.table s) (g.met.S.Domains.shaped s) row.there row.row) in
    record {
      step = step;
      promises = step_keeps (g.S.Domains.frame s) (g.B.Bank.rules b) (g.met.S.Domains.few s) (g.met.B.Bank.lawful b) call (answer_of_order c.order.result) _ _ step;
      refused = c.order.ensures.refused;
      same_frame = c.order.ensures.same_frame;
    }
