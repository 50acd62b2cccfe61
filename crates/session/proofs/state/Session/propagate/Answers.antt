use Rattle.std.proofs.lemmas.Result.{err_from_is_err_and}
use Rattle.std.proofs.Common.{◌≡◌, ◌+◌, rules, Err, sym, refl, ap, ◌∙◌, subst, add-zero, zero-add}
use Rattle.tables.specs.Stores.{Frame}
use Rattle.rules.specs.Banks.{called, Run}
use Rattle.sessions.specs.Steps.{Settles, settled, failed}
use Rattle.session.specs.Answers.{runs_of, end_of}
use Rattle.agenda.specs.Facts.{waits_few}
use Rattle.agenda.specs.Meaning.{waits}
use Rattle.session.proofs.Handing.{handed_ok, handed_err}
use Rattle.session.proofs.Turning.{at_first, last_turn, no_turn, more_turns}
use Rattle.session.proofs.state.Session.propagate.Goals as goal

pub loop-rule-init : goal.loop-rule-init
loop-rule-init g c =
    let s = c.args.store.now in (
      (λ k o u more. subst (λ m. Settles (g.S.Domains.frame s).vars (g.B.Bank.rules c.args.bank.now) (waits c.args.self.now.agenda) (g.S.Domains.table s) m o u) (sym (zero-add k)) more),
      refl,
      refl,
      refl,
      at_first (g.S.Domains.frame s).vars (g.S.Domains.table s) _ (g.met.S.Domains.few s) (waits_few c.args.self.now.agenda),
    )

pub returns-in_err-smaller-clause-settles : goal.returns-in_err-smaller-clause-settles
returns-in_err-smaller-clause-settles g c =
    let inv = c.loop-rule.invariant in
    let bank = g.B.Bank.rules c.args.bank.now in
    let m = handed_err c.run.result c.map_err.result _ c.map_err.ensures.cases c.in_err-smaller.field-0.0 c.in_err-smaller.was in
    let made : c.in_err-smaller.field-0.0 ≡ record { rule = c.in-Some.rule; runs = c.loop-rule.runs + 1 } = search rules in
    let p = err_from_is_err_and c.from_residual.result c.from_residual.ensures.1 in
    let run = subst (λ (f : Frame). Run f.vars (called bank c.in-Some.rule) (g.S.Domains.table c.loop-rule.store) c.run.result (g.S.Domains.table c.run.new.store)) inv.2 c.run.ensures.run in
    let settles = inv.0 1 (failed c.in-Some.rule) _ (last_turn _ bank _ _ c.in-Some.rule _ _ m.0 c.in-Some.ensures.0 (subst (λ a. Run (g.S.Domains.frame c.args.store.now).vars (called bank c.in-Some.rule) (g.S.Domains.table c.loop-rule.store) a (g.S.Domains.table c.run.new.store)) m.1 run)) in
    subst (λ r. Settles (g.S.Domains.frame c.args.store.now).vars bank (waits c.args.self.now.agenda) (g.S.Domains.table c.args.store.now) (runs_of r) (end_of r) (g.S.Domains.table c.run.new.store)) (sym (p.1 ∙ ap Err (p.2 ∙ made))) settles

pub loop-rule-smaller : goal.loop-rule-smaller
loop-rule-smaller g c =
    let inv = c.loop-rule.invariant in
    let s = c.loop-rule.store in
    let ok = handed_ok c.run.result c.map_err.result _ c.map_err.ensures.cases c.in_ok-smaller.smaller c.in_ok-smaller.was in
    let ran = subst (λ a. Run (g.S.Domains.frame s).vars (called (g.B.Bank.rules c.args.bank.now) c.in-Some.rule) (g.S.Domains.table s) a (g.S.Domains.table c.run.new.store)) ok c.run.ensures.run in
    (more_turns (g.S.Domains.frame c.args.store.now) (g.S.Domains.frame s) (g.S.Domains.frame c.run.new.store) (g.B.Bank.rules c.args.bank.now) _ (waits c.loop-rule.self.agenda) (waits c.pop.new.self) (waits c.wake.new.self.agenda) c.in_ok-smaller.smaller c.in-Some.rule c.loop-rule.runs _ (g.S.Domains.table s) (g.S.Domains.table c.run.new.store) inv.2 c.run.ensures.same_frame (g.met.S.Domains.shaped s) c.in-Some.ensures.0 ran c.wake.ensures.agenda (waits_few c.wake.new.self.agenda) inv.0 inv.4).2

pub loop-rule-preserved : goal.loop-rule-preserved
loop-rule-preserved g c =
    let inv = c.loop-rule.invariant in
    let s = c.loop-rule.store in
    let ok = handed_ok c.run.result c.map_err.result _ c.map_err.ensures.cases c.in_ok-smaller.smaller c.in_ok-smaller.was in
    let ran = subst (λ a. Run (g.S.Domains.frame s).vars (called (g.B.Bank.rules c.args.bank.now) c.in-Some.rule) (g.S.Domains.table s) a (g.S.Domains.table c.run.new.store)) ok c.run.ensures.run in
    let more = more_turns (g.S.Domains.frame c.args.store.now) (g.S.Domains.frame s) (g.S.Domains.frame c.run.new.store) (g.B.Bank.rules c.args.bank.now) _ (waits c.loop-rule.self.agenda) (waits c.pop.new.self) (waits c.wake.new.self.agenda) c.in_ok-smaller.smaller c.in-Some.rule c.loop-rule.runs _ (g.S.Domains.table s) (g.S.Domains.table c.run.new.store) inv.2 c.run.ensures.same_frame (g.met.S.Domains.shaped s) c.in-Some.ensures.0 ran c.wake.ensures.agenda (waits_few c.wake.new.self.agenda) inv.0 inv.4 in
    (more.0, c.run.ensures.same_saved ∙ inv.1, c.run.ensures.same_frame ∙ inv.2, c.wake.ensures.same.1 ∙ inv.3, more.1)

pub returns : goal.returns
returns g c =
    let inv = c.loop-rule.invariant in
    let s = c.args.store.now in
    record {
      settles = subst (λ m. Settles (g.S.Domains.frame s).vars (g.B.Bank.rules c.args.bank.now) (waits c.args.self.now.agenda) (g.S.Domains.table s) m settled (g.S.Domains.table c.loop-rule.store)) (add-zero c.loop-rule.runs) (inv.0 0 settled _ (no_turn _ (g.B.Bank.rules c.args.bank.now) _ _ c.in_default.ensures.0));
      same_saved = inv.1;
      same_frame = inv.2;
      same_saves = inv.3;
      idle = λ _. c.in_default.ensures.1;
    }
