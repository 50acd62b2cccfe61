use Rattle.std.proofs.Common.{◌≡◌, ◌&&◌, eqb, ltb, sym, refl, ap, ◌∙◌}
use Rattle.std.proofs.lemmas.Bool.{cond-false}
use Rattle.rules.specs.Banks.{woken}
use Rattle.sessions.specs.Agendas.{joined}
use Rattle.agenda.specs.Meaning.{waits}
use Rattle.session.specs.declared.state.Session.{Session}
use Rattle.session.proofs.Waking.{wakes_smaller, wakes_none, stirs_world, stirs_some}
use Rattle.session.proofs.state.Session.perform.Goals as goal
use Rattle.session.proofs.state.Session.perform.Goals.{then-kept-2, else-kept-2}

pub returns : goal.returns
returns g c =
    let s = c.args.store.now in
    let t = g.S.Domains.table s in
    let keep = c.keep-kept.ensures in
    let rules = g.B.Bank.rules c.args.bank.now in
    let old = waits c.args.self.now.agenda in
    let small = c.keep-kept.result.smaller in
    let woken_then : waits c.if-kept-2.self.agenda ≡ joined old (woken rules (λ z. small && (eqb z c.args.x && ltb c.args.x 256))) =
    elim c.if-kept-2.branch [
      | then-kept-2 w ↦ wakes_smaller rules old _ c.args.x small w.if-kept-2.true (ap (λ (q : Session). waits q.agenda) w.self-is ∙ w.wake_at.ensures.agenda)
      | else-kept-2 w ↦ ap (λ (q : Session). waits q.agenda) w.self-is ∙ wakes_none rules old c.args.x small w.if-kept-2.false
    ] in
    let saves_then : c.if-kept-2.self.saves ≡ c.args.self.now.saves =
    elim c.if-kept-2.branch [
      | then-kept-2 w ↦ ap (λ (q : Session). q.saves) w.self-is ∙ w.wake_at.ensures.same.1
      | else-kept-2 w ↦ ap (λ (q : Session). q.saves) w.self-is
    ] in
    record {
      world = stirs_world (g.S.Domains.frame s).vars c.args.x c.args.row t _ rules old _ _ _ _ _ c.args.self.now.standing _ c.keep-kept.result refl (g.met.S.Domains.few s) (g.met.S.Domains.shaped s) keep.after keep.answer c.if-kept.false woken_then saves_then keep.same_saved;
      answer = sym (cond-false _ _ _ (stirs_some c.args.x c.args.row t _ c.keep-kept.result keep.after keep.answer c.if-kept.false));
      same_frame = keep.same_frame;
    }
