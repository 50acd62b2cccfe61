-- What holds after every history, by induction on it.
use Rattle.std.proofs.Common.{◌≡◌, ℕ, zero, suc, ◌-◌, Bool, true, false, not, ◌&&◌, ◌||◌, eqb, List, [], ◌∷◌, ◌++◌, length, Some, None, sym, refl, ap, ◌∙◌, subst, ⊎_elim, arith}
use Rattle.std.proofs.lemmas.Bool.{both_ways, and_parts, or_left, or_right, or_cases}
use Rattle.tables.specs.Tables.{Table, size_of, Shaped, is_void}
use Rattle.tables.specs.Stores.{newest, older}
use Rattle.rules.specs.Rules.{Rule}
use Rattle.rules.specs.Banks.{called, woken, some}
use Rattle.rules.proofs.Voids.{inside_shaped}
use Rattle.sessions.specs.declared.standing.Standing.TheVariants as standing
use Rattle.sessions.specs.declared.call.Call.{Call}
use Rattle.sessions.specs.declared.call.Call.TheVariants.{Strike, Narrow, Settle, Save, Restore}
use Rattle.sessions.specs.declared.answer.Answer.{Answer}
use Rattle.sessions.specs.declared.answer.Answer.TheVariants.{Done, Emptied, Settled, Failed, Refused}
use Rattle.sessions.specs.declared.fault.SessionFault.{SessionFault}
use Rattle.sessions.specs.Agendas.{member, upto}
use Rattle.sessions.specs.Worlds.{World, is_failed, is_stirred, refusal, refused_start, aimed, ordered}
use Rattle.sessions.specs.Steps.{values, smaller, woke, settled, failed, Settles, stirred_by, broken_by, settled_by, saved_by, restored_by, Step, refused, stirs, empties, settles, breaks, saves, restores}
use Rattle.sessions.specs.Histories.{History, Lived, begun, stepped, Leads, stays, goes, granted, Orders, put_back, heeded, orders, under, bounds, rests, rested, ever_settled, aims, touched}
use Rattle.sessions.specs.Promises.{NoStable, Greatest, Waiting}
use Rattle.sessions.proofs.Waits.{joined_from, joined_none, upto_all, upto_below}
use Rattle.sessions.proofs.Settling.{Fair, Low, Holding, woken_low, woke_low, settling, settles_inside, holding_greatest, greatest_holding}
use Rattle.sessions.proofs.Ordering.{ordered_inside, smaller_aimed, aims_aimed, order_holds, order_empties}
use Rattle.sessions.proofs.Starting.{some_none, order_granted, settle_granted, save_granted, restore_granted, settled_stands}

-- each note has its saved table, the greatest one under the orders noted
abbrev pub Noted : ℕ → List Rule → Table → List (List Call) → List Table → Type 0
Noted n rules start [] saved = Unit {0}
Noted n rules start (note ∷ notes) [] = ⊥
Noted n rules start (note ∷ notes) (t ∷ saved) = Greatest n rules (under note start) t × Noted n rules start notes saved

-- What holds of a history and the world it leads to.
pub record Sound (n : ℕ) (rules : List Rule) (start : Table) (h : History) (w : World) : Type 0 where
  pub shaped : Shaped n w.table
  pub low : Low rules w.agenda
  pub holds : is_failed w.standing ≡ false → Holding n rules (bounds start h) w.agenda w.table
  pub broken : w.standing ≡ standing.Failed → NoStable n rules (bounds start h)
  pub idle : w.standing ≡ standing.Settled → w.agenda ≡ []
  pub young : ever_settled h ≡ false → (w.saves ≡ 0) × (w.standing ≡ standing.Settled → ⊥)
  pub counted : w.saves ≡ length (orders h).notes
  pub noted : Noted n rules start (orders h).notes w.saved
  pub calm : rested h ≡ true → w.standing ≡ standing.Settled
  pub waiting : Waiting rules h w

-- ---- the last call

rests_refused : (c : Call) (f : SessionFault) → rests c (Refused f) ≡ false
rests_refused (Strike x v) f = refl
rests_refused (Narrow x lo hi) f = refl
rests_refused Settle f = refl
rests_refused Save f = refl
rests_refused Restore f = refl

rests_order : (c : Call) (x : ℕ) (a : Answer) → aimed c ≡ Some x → rests c a ≡ false
rests_order (Strike y v) x a e = refl
rests_order (Narrow y lo hi) x a e = refl
rests_order Settle x a e = absurd (some_none (sym e))
rests_order Save x a e = refl
rests_order Restore x a e = absurd (some_none (sym e))

-- an order joins those in force
orders_order : (c : Call) (x : ℕ) (o : Orders) → aimed c ≡ Some x → heeded c o ≡ record { force = c ∷ o.force; notes = o.notes }
orders_order (Strike y v) x o e = refl
orders_order (Narrow y lo hi) x o e = refl
orders_order Settle x o e = absurd (some_none (sym e))
orders_order Save x o e = absurd (some_none (sym e))
orders_order Restore x o e = absurd (some_none (sym e))

-- a witness of a woken rule
some_witness : (p : ℕ → Bool) (n : ℕ) → some p n ≡ true → (k : ℕ) × (p k ≡ true)
some_witness p zero h = absurd (both_ways false refl h)
some_witness p (suc n) h = ⊎_elim (λ here. (n, here)) (λ below. some_witness p n below) (or_cases (p n) _ h)

woken_witness : (rules : List Rule) (s : ℕ → Bool) (i : ℕ) → woken rules s i ≡ true → (x : ℕ) × (s x ≡ true) × ((called rules i).watches x ≡ true)
unfolding woken
woken_witness rules s i h =
    let w = some_witness (λ x. s x && (called rules i).watches x) 256 h in
    let p = and_parts (s w.0) _ w.1 in
    (w.0, p.0, p.1)

stirred_not : standing.Stirred ≡ standing.Settled → ⊥
stirred_not e = both_ways true (ap is_stirred e) refl

failed_not : standing.Failed ≡ standing.Settled → ⊥
failed_not e = both_ways true (ap is_failed e) refl

none_waits : (i : ℕ) → member i [] ≡ true → ⊥
none_waits i h = both_ways false refl h

module _ (n most : ℕ) (rules : List Rule) (fair : Fair n rules) (start : Table) where
  -- ---- each way a call can go

  sound_begun : (base : List Table) → Shaped n start → is_void n start ≡ false → Sound n rules start [] (record { standing = standing.Stirred; agenda = upto (length rules); saves = 0; table = start; saved = base })
  sound_begun base s full = record {
    shaped = s;
    low = λ i h. upto_below (length rules) i h;
    holds = λ _. record { full = full; inside = λ x v h. h; most = λ u stable. stable.inside; fixed = λ i l out. absurd (both_ways _ out (upto_all (length rules) i l)) };
    broken = λ e. absurd (both_ways false refl (ap is_failed e));
    idle = λ e. absurd (stirred_not e);
    young = λ _. (refl, stirred_not);
    counted = refl;
    noted = tt;
    calm = λ e. absurd (both_ways false refl e);
    waiting = record { all = λ _ _. refl; since = λ i e. absurd (both_ways false refl e) };
  }

  sound_refused : (h : History) (w : World) (c : Call) (f : SessionFault) → Sound n rules start h w → Sound n rules start (record { call = c; answer = Refused f } ∷ h) w
  sound_refused h w c f s = record {
    shaped = s.shaped;
    low = s.low;
    holds = s.holds;
    broken = s.broken;
    idle = s.idle;
    young = s.young;
    counted = s.counted;
    noted = s.noted;
    calm = λ e. absurd (both_ways (rests c (Refused f)) (rests_refused c f) e);
    waiting = record {
      all = s.waiting.all;
      since = λ i e m.
          let q = s.waiting.since i e m in
          (q.0, ap (λ (b : Bool). not b && touched h q.0) (rests_refused c f) ∙ q.1, q.2);
    };
  }

  -- what an order leaves to say of who waits
  waits_order : (h : History) (w : World) (c : Call) (x : ℕ) (a : Answer) → aimed c ≡ Some x → granted a ≡ true → Sound n rules start h w → (i : ℕ) → ever_settled h ≡ true → member i (woke rules w.table (ordered c w.table) w.agenda) ≡ true → (z : ℕ) × (touched (record { call = c; answer = a } ∷ h) z ≡ true) × ((called rules i).watches z ≡ true)
  waits_order h w c x a e g s i ever m =
      ⊎_elim
      (λ old. let q = s.waiting.since i ever old in (q.0, told q.0 (or_right (granted a && aims c q.0) (touched h q.0) q.1), q.2))
      (λ new.
      let q = woken_witness rules (smaller w.table (ordered c w.table)) i new.1 in
      let at : q.0 ≡ x = smaller_aimed c x e w.table q.0 q.1 in
      (q.0, told q.0 (or_left (granted a && aims c q.0) _ (ap (λ (b : Bool). b && aims c q.0) g ∙ subst (λ z. aims c z ≡ true) (sym at) (aims_aimed c x e))), q.2))
      (joined_from w.agenda (woken rules (smaller w.table (ordered c w.table))) i m)
    where
      told : (z : ℕ) → ((granted a && aims c z) || touched h z) ≡ true → touched (record { call = c; answer = a } ∷ h) z ≡ true
      told z q = ap (λ (b : Bool). not b && ((granted a && aims c z) || touched h z)) (rests_order c x a e) ∙ q

  sound_stirs : (h : History) (w : World) (c : Call) (x : ℕ) → aimed c ≡ Some x → refusal n most w c ≡ None → eqb (size_of (ordered c w.table x)) 0 ≡ false → Sound n rules start h w → Sound n rules start (record { call = c; answer = Done } ∷ h) (stirred_by rules c w)
  sound_stirs h w c x e r some s =
      let go = order_granted n most w c x e r in
      let o = orders_order c x (orders h) e in
      record {
        shaped = inside_shaped n _ _ (ordered_inside c w.table) s.shaped;
        low = woke_low n rules fair w.table (ordered c w.table) w.agenda s.low;
        holds = λ _. subst (λ (q : Orders). Holding n rules (under q.force start) (woke rules w.table (ordered c w.table) w.agenda) (ordered c w.table)) (sym o) (order_holds n rules fair c x e (bounds start h) w.table w.agenda s.shaped (s.holds go.0) some);
        broken = λ q. absurd (both_ways false refl (ap is_failed q));
        idle = λ q. absurd (stirred_not q);
        young = λ q. ((s.young q).0, stirred_not);
        counted = s.counted ∙ ap (λ (q : Orders). length q.notes) (sym o);
        noted = subst (λ (q : Orders). Noted n rules start q.notes w.saved) (sym o) s.noted;
        calm = λ q. absurd (both_ways (rests c Done) (rests_order c x Done e) q);
        waiting = record {
          all = λ _ q. let was = s.waiting.all go.0 q in
              joined_none w.agenda (woken rules (smaller w.table (ordered c w.table))) (λ k woke. subst (λ (l : List ℕ). member k l ≡ true) (sym was) (upto_all (length rules) k (woken_low n rules fair (smaller w.table (ordered c w.table)) k woke))) ∙ was;
          since = λ i ever m. waits_order h w c x Done e refl s i ever m;
        };
      }

  sound_empties : (h : History) (w : World) (c : Call) (x : ℕ) → aimed c ≡ Some x → refusal n most w c ≡ None → eqb (size_of (ordered c w.table x)) 0 ≡ true → Sound n rules start h w → Sound n rules start (record { call = c; answer = Emptied } ∷ h) (broken_by (ordered c w.table) w)
  sound_empties h w c x e r none s =
      let go = order_granted n most w c x e r in
      let o = orders_order c x (orders h) e in
      record {
        shaped = inside_shaped n _ _ (ordered_inside c w.table) s.shaped;
        low = λ i m. absurd (none_waits i m);
        holds = λ q. absurd (both_ways true q refl);
        broken = λ _. subst (λ (q : Orders). NoStable n rules (under q.force start)) (sym o) (order_empties n rules fair c x go.1 (bounds start h) w.table w.agenda (s.holds go.0) none);
        idle = λ _. refl;
        young = λ q. ((s.young q).0, failed_not);
        counted = s.counted ∙ ap (λ (q : Orders). length q.notes) (sym o);
        noted = subst (λ (q : Orders). Noted n rules start q.notes w.saved) (sym o) s.noted;
        calm = λ q. absurd (both_ways (rests c Emptied) (rests_order c x Emptied e) q);
        waiting = record { all = λ q. absurd (both_ways true q refl); since = λ i ever m. absurd (none_waits i m) };
      }

  sound_settles : (h : History) (w : World) (t : Table) (k m : ℕ) → refusal n most w Settle ≡ None → Settles n rules w.agenda w.table k settled t → Sound n rules start h w → Sound n rules start (record { call = Settle; answer = Settled k m } ∷ h) (settled_by t w)
  sound_settles h w t k m r run s =
      let ends = settling n rules fair (bounds start h) run s.low s.shaped (s.holds (settle_granted n most w r)) in
      record {
        shaped = ends.0;
        low = λ i q. absurd (none_waits i q);
        holds = λ _. ends.1;
        broken = λ q. absurd (both_ways false refl (ap is_failed q));
        idle = λ _. refl;
        young = λ q. absurd (both_ways true q refl);
        counted = s.counted;
        noted = s.noted;
        calm = λ _. refl;
        waiting = record { all = λ _ q. absurd (both_ways true q refl); since = λ i ever q. absurd (none_waits i q) };
      }

  sound_breaks : (h : History) (w : World) (t : Table) (i k : ℕ) → refusal n most w Settle ≡ None → Settles n rules w.agenda w.table k (failed i) t → Shaped n t → Sound n rules start h w → Sound n rules start (record { call = Settle; answer = Failed i k } ∷ h) (broken_by t w)
  sound_breaks h w t i k r run st s = record {
    shaped = st;
    low = λ i q. absurd (none_waits i q);
    holds = λ q. absurd (both_ways true q refl);
    broken = λ _. settling n rules fair (bounds start h) run s.low s.shaped (s.holds (settle_granted n most w r));
    idle = λ _. refl;
    young = λ q. ((s.young q).0, failed_not);
    counted = s.counted;
    noted = s.noted;
    calm = λ q. absurd (both_ways false refl q);
    waiting = record { all = λ q. absurd (both_ways true q refl); since = λ i ever q. absurd (none_waits i q) };
  }

  sound_saves : (h : History) (w : World) → refusal n most w Save ≡ None → Sound n rules start h w → Sound n rules start (record { call = Save; answer = Done } ∷ h) (saved_by w)
  sound_saves h w r s =
      let is = save_granted n most w r in
      let holding = subst (λ (l : List ℕ). Holding n rules (bounds start h) l w.table) (s.idle is) (s.holds (settled_stands w.standing is)) in
      record {
        shaped = s.shaped;
        low = s.low;
        holds = s.holds;
        broken = s.broken;
        idle = s.idle;
        young = λ q. absurd ((s.young q).1 is);
        counted = let c = s.counted in omega arith;
        noted = (holding_greatest n rules fair (bounds start h) w.table s.shaped holding, s.noted);
        calm = λ q. absurd (both_ways false refl q);
        waiting = record { all = s.waiting.all; since = s.waiting.since };
      }

  -- the last note and its table
  back : (force : List Call) (notes : List (List Call)) (k : ℕ) (saved : List Table) (t : Table) → (k ≡ 0 → ⊥) → k ≡ length notes → Noted n rules start notes saved → Greatest n rules (under (put_back force notes).force start) (newest saved t) × (k - 1 ≡ length (put_back force notes).notes) × Noted n rules start (put_back force notes).notes (older saved)
  back force [] k saved t some e noted = absurd (some e)
  back force (note ∷ notes) k [] t some e noted = absurd noted
  back force (note ∷ notes) k (s ∷ saved) t some e noted = (noted.0, omega arith, noted.1)

  sound_restores : (h : History) (w : World) → refusal n most w Restore ≡ None → Sound n rules start h w → Sound n rules start (record { call = Restore; answer = Done } ∷ h) (restored_by w)
  sound_restores h w r s =
      let go = restore_granted n most w r in
      let b = back (orders h).force (orders h).notes w.saves w.saved w.table go.0 s.counted s.noted in
      record {
        shaped = b.0.stable.shaped;
        low = λ i q. absurd (none_waits i q);
        holds = λ _. greatest_holding n rules fair (bounds start (record { call = Restore; answer = Done } ∷ h)) (newest w.saved w.table) b.0;
        broken = λ q. absurd (both_ways false refl (ap is_failed q));
        idle = λ _. refl;
        young = λ q. absurd (go.0 (s.young q).0);
        counted = b.1;
        noted = b.2;
        calm = λ _. refl;
        waiting = record { all = λ _ q. absurd (go.0 (s.young q).0); since = λ i ever q. absurd (none_waits i q) };
      }

  -- a step keeps what holds
  pub sound_step : (h : History) {w w' : World} {c : Call} {a : Answer} → Sound n rules start h w → Step n most rules w w' c a → Sound n rules start (record { call = c; answer = a } ∷ h) w'
  sound_step h {w} {w'} {c} s (refused {f = f} r is) = subst (λ (v : World). Sound n rules start (record { call = c; answer = Refused f } ∷ h) v) (sym is) (sound_refused h w c f s)
  sound_step h {w} {w'} {c} s (stirs {x = x} e r q is) = subst (λ (v : World). Sound n rules start (record { call = c; answer = Done } ∷ h) v) (sym is) (sound_stirs h w c x e r q s)
  sound_step h {w} {w'} {c} s (empties {x = x} e r q is) = subst (λ (v : World). Sound n rules start (record { call = c; answer = Emptied } ∷ h) v) (sym is) (sound_empties h w c x e r q s)
  sound_step h {w} s (settles {t = t} {k = k} r run is) = subst (λ (v : World). Sound n rules start (record { call = Settle; answer = Settled k (values n w.table - values n t) } ∷ h) v) (sym is) (sound_settles h w t k _ r run s)
  sound_step h {w} s (breaks {t = t} {i = i} {k = k} r run is) = subst (λ (v : World). Sound n rules start (record { call = Settle; answer = Failed i k } ∷ h) v) (sym is) (sound_breaks h w t i k r run (inside_shaped n t w.table (settles_inside run) s.shaped) s)
  sound_step h {w} s (saves r is) = subst (λ (v : World). Sound n rules start (record { call = Save; answer = Done } ∷ h) v) (sym is) (sound_saves h w r s)
  sound_step h {w} s (restores r is) = subst (λ (v : World). Sound n rules start (record { call = Restore; answer = Done } ∷ h) v) (sym is) (sound_restores h w r s)

  pub sound : {base : List Table} {h : History} {w : World} → is_void n start ≡ false → Lived n most rules start base h w → Sound n rules start h w
  sound {base} full (begun b) = subst (λ (v : World). Sound n rules start [] v) (sym b.stands) (sound_begun base b.shaped full)
  sound full (stepped {h = h} lived step) = sound_step h (sound full lived) step

-- a lived history had an accepted beginning
pub lived_begun : {n most : ℕ} {rules : List Rule} {start : Table} {base : List Table} {h : History} {w : World} → Lived n most rules start base h w → Shaped n start × (refused_start n rules start ≡ None)
lived_begun (begun b) = (b.shaped, b.accepted)
lived_begun (stepped lived step) = lived_begun lived

-- a lived history goes on by a list of calls
pub leads_on : {n most : ℕ} {rules : List Rule} {start : Table} {base : List Table} {h : History} {w : World} {k : History} {v : World} → Lived n most rules start base h w → Leads n most rules w k v → Lived n most rules start base (k ++ h) v
leads_on lived stays = lived
leads_on lived (goes leads step) = stepped (leads_on lived leads) step
