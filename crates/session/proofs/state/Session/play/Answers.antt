use Rattle.std.proofs.Common.{◌≡◌, drop, refl, ◌∙◌, subst, arith, rules}
use Rattle.std.proofs.lemmas.List.{length-set, length-take, get_or-take}
use Rattle.sessions.specs.Histories.{Leads, stays}
use Rattle.sessions.specs.declared.call.Call.{Call}
use Rattle.session.specs.Meaning.{world, events, Steps}
use Rattle.session.proofs.Playing.{leads_more, rest_same}
use Rattle.session.proofs.Promised.{leads_keeps}
use Rattle.session.proofs.state.Session.play.Goals as goal

pub loop-k-init : goal.loop-k-init
loop-k-init g c = (stays, refl, refl, refl)

pub loop-k-preserved : goal.loop-k-preserved
loop-k-preserved g c =
    let inv = c.loop-k.invariant in
    let count = c.min-count.ensures in
    let below = c.loop-k-test.true in
    let long = inv.1 in
    let part = length-take c.min-count.result c.args.calls.now in
    let step =
    subst (λ (x : Call). Steps (g.S.Domains.frame c.loop-k.store) (g.B.Bank.rules c.args.bank.now) x c.answer.result (world c.loop-k.self (g.S.Domains.table c.loop-k.store) (g.S.Domains.saved c.loop-k.store)) (world c.answer.new.self (g.S.Domains.table c.answer.new.store) (g.S.Domains.saved c.answer.new.store)))
    (get_or-take c.min-count.result c.args.calls.now c.loop-k.k _ (omega arith)) c.answer.ensures.step in (
      leads_more (g.S.Domains.frame c.args.store.now) (g.S.Domains.frame c.loop-k.store) (g.B.Bank.rules c.args.bank.now) _ _ _ c.args.calls.now c.loop-k.answers c.loop-k.k c.answer.result _ inv.3 (omega arith) (omega arith) inv.0 step,
      length-set c.loop-k.answers c.loop-k.k c.answer.result ∙ inv.1,
      rest_same c.loop-k.answers c.args.answers.now c.loop-k.k c.answer.result inv.2,
      c.answer.ensures.same_frame ∙ inv.3,
    )

pub returns : goal.returns
returns g c =
    let inv = c.loop-k.invariant in
    let s = c.args.store.now in
    let b = c.args.bank.now in
    let all : c.loop-k.k ≡ c.min-count.result = search rules in
    let leads = subst (λ m. Leads (g.S.Domains.frame s).vars (g.S.Domains.frame s).most (g.B.Bank.rules b) (world c.args.self.now (g.S.Domains.table s) (g.S.Domains.saved s)) (events c.args.calls.now c.loop-k.answers m) (world c.loop-k.self (g.S.Domains.table c.loop-k.store) (g.S.Domains.saved c.loop-k.store))) all inv.0 in
    record {
      count = c.min-count.ensures;
      steps = leads;
      promises = leads_keeps (g.S.Domains.frame s) (g.B.Bank.rules b) (g.met.S.Domains.few s) (g.met.B.Bank.lawful b) _ _ _ leads;
      rest = (inv.1, subst (λ m. drop m c.loop-k.answers ≡ drop m c.args.answers.now) all inv.2);
      same_frame = inv.3;
    }
