use Rattle.std.proofs.Common.{◌≡◌, ℕ, ◌≤◌, true, false, refl, ap, ◌∙◌, arith, rules}
use Rattle.tables.specs.Stores.{Frame}
use Rattle.tables.specs.Tables.{Table, Inside}
use Rattle.sessions.specs.Worlds.{is_failed}
use Rattle.sessions.specs.Steps.{values}
use Rattle.sessions.proofs.Settling.{settles_inside}
use Rattle.session.specs.Meaning.{world}
use Rattle.session.proofs.Stepping.{settle_refused, settle_settles, settle_breaks}
use Rattle.session.proofs.Turning.{values_mono}
use Rattle.session.proofs.Waking.{world_is}
use Rattle.session.proofs.state.Session.try_settle.Goals as goal

less : (f e : Frame) (t u : Table) (before after : ℕ) → e ≡ f → Inside u t → before ≡ values f.vars t → after ≡ values e.vars u → after ≤ before
less f e t u before after same inside eb ea =
    let v = ea ∙ ap (λ (h : Frame). values h.vars u) same in
    let m = values_mono f.vars u t inside in
    omega arith

pub returns-then-eq : goal.returns-then-eq
returns-then-eq g c =
    let s = c.args.store.now in
    record {
      step = settle_refused (g.S.Domains.frame s) (g.B.Bank.rules c.args.bank.now) (world c.args.self.now (g.S.Domains.table s) (g.S.Domains.saved s)) _ (let is : is_failed c.args.self.now.standing ≡ true = search rules in is) refl;
      refused = (refl, refl);
      same_frame = refl;
    }

pub overflow_sub-result : goal.overflow_sub-result
overflow_sub-result g c = less (g.S.Domains.frame c.args.store.now) (g.S.Domains.frame c.propagate.new.store) (g.S.Domains.table c.args.store.now) (g.S.Domains.table c.propagate.new.store) c.total-before.result c.total.result c.propagate.ensures.same_frame (settles_inside c.propagate.ensures.settles) c.total-before.ensures.value c.total.ensures.value

pub returns-in-Ok : goal.returns-in-Ok
returns-in-Ok g c =
    let s = c.args.store.now in
    let after = c.in-Ok.ensures in
    record {
      step = settle_settles (g.S.Domains.frame s) (g.B.Bank.rules c.args.bank.now) (world c.args.self.now (g.S.Domains.table s) (g.S.Domains.saved s)) _ c.in-Ok.runs c.total-before.result c.total.result (let is : is_failed c.args.self.now.standing ≡ false = search rules in is) after.settles c.total-before.ensures.value (c.total.ensures.value ∙ ap (λ (h : Frame). values h.vars (g.S.Domains.table c.propagate.new.store)) c.propagate.ensures.same_frame)
          (world_is refl (after.idle refl) c.propagate.ensures.same_saves refl c.propagate.ensures.same_saved);
      refused = tt;
      same_frame = c.propagate.ensures.same_frame;
    }

pub returns-in-Err : goal.returns-in-Err
returns-in-Err g c =
    let s = c.args.store.now in
    let after = c.in-Err.ensures in
    let failed = c.fail.ensures in
    record {
      step = settle_breaks (g.S.Domains.frame s) (g.B.Bank.rules c.args.bank.now) (world c.args.self.now (g.S.Domains.table s) (g.S.Domains.saved s)) _ c.in-Err.field-0.rule c.in-Err.field-0.runs (let is : is_failed c.args.self.now.standing ≡ false = search rules in is) after.settles
          (world_is failed.0 failed.1 (failed.2 ∙ c.propagate.ensures.same_saves) refl c.propagate.ensures.same_saved);
      refused = tt;
      same_frame = c.propagate.ensures.same_frame;
    }
