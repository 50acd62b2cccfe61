-- What a beginning that is accepted shows, and a call that is not refused.
use Rattle.std.proofs.Common.{◌≡◌, ℕ, zero, suc, ◌<◌, ◌≤◌, Bool, true, false, cond, not, eqb, ltb, leb, List, [], ◌∷◌, length, get_or, is_some, Some, None, Ok, Err, Option, Result, sym, refl, ap, ◌∙◌, subst, le_of_suc-le-suc, not-suc-le-zero}
use Rattle.std.proofs.lemmas.Bool.{both_ways, ltb-true, leb-true, eqb-false, le-leb, not-false}
use Rattle.tables.specs.Tables.{Table, is_void}
use Rattle.rules.specs.declared.fault.RuleFault.{RuleFault}
use Rattle.rules.specs.Rules.{Rule, Lawful}
use Rattle.rules.specs.Banks.{called, nobody}
use Rattle.sessions.specs.declared.standing.Standing.{Standing}
use Rattle.sessions.specs.declared.standing.Standing.TheVariants as standing
use Rattle.sessions.specs.declared.call.Call.{Call}
use Rattle.sessions.specs.declared.call.Call.TheVariants.{Strike, Narrow, Settle, Save, Restore}
use Rattle.sessions.specs.declared.fault.SessionFault.{SessionFault}
use Rattle.sessions.specs.Worlds.{World, is_failed, is_stirred, is_none, when, refusal, or_else, unfit, refused_start, aimed}
use Rattle.sessions.proofs.Ordering.{some_is}
use Rattle.sessions.proofs.Settling.{Fair}

-- something is not nothing
pub some_none : {A : Type 0} {a : A} → Some a ≡ None → ⊥
some_none e = both_ways true (ap is_some e) refl

pub when_none : (b : Bool) (f : SessionFault) (rest : Option SessionFault) → when b f rest ≡ None → (b ≡ false) × (rest ≡ None)
when_none true f rest e = absurd (some_none e)
when_none false f rest e = (refl, e)

-- ---- beginnings

fits_none : (i : ℕ) (q : Result (Unit {0}) RuleFault) (rest : Option SessionFault) → or_else i q rest ≡ None → (q ≡ Ok tt) × (rest ≡ None)
fits_none i (Ok u) rest e = (refl, e)
fits_none i (Err f) rest e = absurd (some_none e)

pub unfit_none : (n i : ℕ) (rules : List Rule) (rest : Option SessionFault) → unfit n i rules rest ≡ None → ((k : ℕ) → k < length rules → (get_or rules k nobody).fit n ≡ Ok tt) × (rest ≡ None)
unfit_none n i [] rest e = ((λ k l. absurd (not-suc-le-zero l)), e)
unfit_none n i (r ∷ rs) rest e =
    let here = fits_none i (r.fit n) (unfit n (suc i) rs rest) e in
    let more = unfit_none n (suc i) rs rest here.1 in
    (each here.0 more.0, more.1)
  where
    each : r.fit n ≡ Ok tt → ((k : ℕ) → k < length rs → (get_or rs k nobody).fit n ≡ Ok tt) → (k : ℕ) → k < length (r ∷ rs) → (get_or (r ∷ rs) k nobody).fit n ≡ Ok tt
    each p f zero l = p
    each p f (suc k) l = f k (le_of_suc-le-suc l)

-- the rules of an accepted beginning are fair, and its table is not void
pub accepted_fair : (n : ℕ) (rules : List Rule) (start : Table) → n ≤ 256 → ((i m : ℕ) → (called rules i).fit m ≡ Ok tt → Lawful m (called rules i)) → refused_start n rules start ≡ None → Fair n rules × (is_void n start ≡ false)
accepted_fair n rules start few law e =
    let one = when_none (eqb n 0) _ _ e in
    let two = when_none (not (leb (length rules) 256)) _ _ one.1 in
    let short = leb-true (length rules) 256 (not-false _ two.0) in
    let three = unfit_none n 0 rules _ two.1 in
    let fits : (i : ℕ) → i < length rules → (called rules i).fit n ≡ Ok tt = λ i l. ap (λ (b : Bool). (cond b (get_or rules i nobody) nobody).fit n) (le-leb (length rules) 256 short) ∙ three.0 i l in
    (record { few = few; short = short; fits = fits; laws = λ i l. law i n (fits i l) }, (when_none (is_void n start) _ _ three.1).0)

-- ---- calls

-- an order that is not refused
pub order_granted : (n most : ℕ) (w : World) (c : Call) (x : ℕ) → aimed c ≡ Some x → refusal n most w c ≡ None → (is_failed w.standing ≡ false) × (x < n)
order_granted n most w (Strike y v) x e h =
    let one = when_none (is_failed w.standing) _ _ h in
    let two = when_none (not (ltb y n)) _ _ one.1 in
    (one.0, subst (λ z. z < n) (some_is e) (ltb-true y n (not-false _ two.0)))
order_granted n most w (Narrow y lo hi) x e h =
    let one = when_none (is_failed w.standing) _ _ h in
    let two = when_none (not (ltb y n)) _ _ one.1 in
    (one.0, subst (λ z. z < n) (some_is e) (ltb-true y n (not-false _ two.0)))
order_granted n most w Settle x e h = absurd (some_none (sym e))
order_granted n most w Save x e h = absurd (some_none (sym e))
order_granted n most w Restore x e h = absurd (some_none (sym e))

pub settle_granted : (n most : ℕ) (w : World) → refusal n most w Settle ≡ None → is_failed w.standing ≡ false
settle_granted n most w h = (when_none (is_failed w.standing) _ _ h).0

-- neither failed nor stirred
calm : (s : Standing) → is_failed s ≡ false → is_stirred s ≡ false → s ≡ standing.Settled
calm standing.Stirred p q = absurd (both_ways true q refl)
calm standing.Settled p q = refl
calm standing.Failed p q = absurd (both_ways true p refl)

pub save_granted : (n most : ℕ) (w : World) → refusal n most w Save ≡ None → w.standing ≡ standing.Settled
save_granted n most w h =
    let one = when_none (is_failed w.standing) _ _ h in
    let two = when_none (is_stirred w.standing) _ _ one.1 in
    calm w.standing one.0 two.0

pub restore_granted : (n most : ℕ) (w : World) → refusal n most w Restore ≡ None → (w.saves ≡ 0 → ⊥) × (is_none w.saved ≡ false)
restore_granted n most w h =
    let one = when_none (eqb w.saves 0) _ _ h in
    let two = when_none (is_none w.saved) _ _ one.1 in
    (eqb-false w.saves 0 one.0, two.0)

-- a session that stands settled does not stand failed
pub settled_stands : (s : Standing) → s ≡ standing.Settled → is_failed s ≡ false
settled_stands s e = ap is_failed e
