-- A step fixes its answer, and the world after it but for the table of a failure.
use Rattle.std.proofs.Common.{◌≡◌, ℕ, suc, ◌-◌, true, false, eqb, List, Some, None, Option, sym, refl, ap, ◌∙◌, subst, ap₂}
use Rattle.std.proofs.lemmas.Bool.{both_ways}
use Rattle.tables.specs.Tables.{Table, size_of, is_void}
use Rattle.rules.specs.Rules.{Rule}
use Rattle.sessions.specs.declared.call.Call.{Call}
use Rattle.sessions.specs.declared.call.Call.TheVariants.{Settle, Save, Restore}
use Rattle.sessions.specs.declared.answer.Answer.{Answer}
use Rattle.sessions.specs.declared.answer.Answer.TheVariants.{Done, Emptied, Settled, Failed, Refused}
use Rattle.sessions.specs.declared.fault.SessionFault.{SessionFault}
use Rattle.sessions.specs.Worlds.{World, is_failed, refusal, aimed, ordered}
use Rattle.sessions.specs.Steps.{values, woke, Outcome, settled, failed, Settles, rests, fails, runs, stirred_by, broken_by, settled_by, saved_by, restored_by, Step, refused, stirs, empties, settles, breaks, saves, restores}
use Rattle.sessions.specs.Promises.{Alike}
use Rattle.sessions.proofs.Ordering.{some_is}
use Rattle.sessions.proofs.Starting.{some_none, order_granted, settle_granted, save_granted, restore_granted}
use Rattle.sessions.specs.declared.standing.Standing.TheVariants as standing
use Rattle.sessions.proofs.Working.{failed_settled}

-- ---- settling

-- two ways of settling from one agenda and one table that is not void: as many runs, the same end and, unless it failed, the same table
pub settles_only : {n : ℕ} {rules : List Rule} {agenda : List ℕ} {t u v : Table} {k m : ℕ} {o p : Outcome} → is_void n t ≡ false → Settles n rules agenda t k o u → Settles n rules agenda t m p v → (k ≡ m) × (o ≡ p) × (o ≡ settled → u ≡ v)
settles_only full rests rests = (refl, refl, λ _. refl)
settles_only full (fails {i = i} a) (fails b) = (refl, refl, λ e. absurd (failed_settled i e))
settles_only full (fails a) (runs b more) = absurd (both_ways _ (b.exact full).0 (a.exact full))
settles_only full (runs a more) (fails b) = absurd (both_ways _ (a.exact full).0 (b.exact full))
settles_only {n} {rules} {t = t} {v = v} {p = p} full (runs {rest = rest} {u = u} a more) (runs {u = w} {k = m} b less) =
    let same : w ≡ u = (b.exact full).1 ∙ sym (a.exact full).1 in
    let q = settles_only (subst (λ (d : Table). is_void n d ≡ false) (sym (a.exact full).1) (a.exact full).0) more (subst (λ (d : Table). Settles n rules (woke rules t d rest) d m p v) same less) in
    (ap suc q.0, q.1, q.2)

-- ---- steps

abbrev got : Option SessionFault → SessionFault → SessionFault
got (Some f) d = f
got None d = d

pub alike_same : {v w : World} → v ≡ w → Alike v w
alike_same e = record { standing = ap (λ (u : World). u.standing) e; agenda = ap (λ (u : World). u.agenda) e; saves = ap (λ (u : World). u.saves) e; saved = ap (λ (u : World). u.saved) e; table = λ _. ap (λ (u : World). u.table) e }

module _ (n most : ℕ) (rules : List Rule) (w : World) where
  refused_only : {v : World} {c : Call} {b : Answer} (f : SessionFault) → refusal n most w c ≡ Some f → Step n most rules w v c b → (b ≡ Refused f) × (v ≡ w)
  refused_only f r (refused q is) = (ap Refused (ap (λ (o : Option SessionFault). got o f) (sym q ∙ r)), is)
  refused_only f r (stirs e q some is) = absurd (some_none (sym r ∙ q))
  refused_only f r (empties e q none is) = absurd (some_none (sym r ∙ q))
  refused_only f r (settles q run is) = absurd (some_none (sym r ∙ q))
  refused_only f r (breaks q run is) = absurd (some_none (sym r ∙ q))
  refused_only f r (saves q is) = absurd (some_none (sym r ∙ q))
  refused_only f r (restores q is) = absurd (some_none (sym r ∙ q))

  stirs_only : {v : World} {c : Call} {b : Answer} (x : ℕ) → aimed c ≡ Some x → refusal n most w c ≡ None → eqb (size_of (ordered c w.table x)) 0 ≡ false → Step n most rules w v c b → (b ≡ Done) × (v ≡ stirred_by rules c w)
  stirs_only x e r some (refused q is) = absurd (some_none (sym q ∙ r))
  stirs_only x e r some (stirs f q s is) = (refl, is)
  stirs_only {c = c} x e r some (empties f q none is) = absurd (both_ways _ some (subst (λ y. eqb (size_of (ordered c w.table y)) 0 ≡ true) (some_is (sym f ∙ e)) none))
  stirs_only x e r some (settles q run is) = absurd (some_none (sym e))
  stirs_only x e r some (breaks q run is) = absurd (some_none (sym e))
  stirs_only x e r some (saves q is) = absurd (some_none (sym e))
  stirs_only x e r some (restores q is) = absurd (some_none (sym e))

  empties_only : {v : World} {c : Call} {b : Answer} (x : ℕ) → aimed c ≡ Some x → refusal n most w c ≡ None → eqb (size_of (ordered c w.table x)) 0 ≡ true → Step n most rules w v c b → (b ≡ Emptied) × (v ≡ broken_by (ordered c w.table) w)
  empties_only x e r none (refused q is) = absurd (some_none (sym q ∙ r))
  empties_only {c = c} x e r none (stirs f q some is) = absurd (both_ways _ (subst (λ y. eqb (size_of (ordered c w.table y)) 0 ≡ false) (some_is (sym f ∙ e)) some) none)
  empties_only x e r none (empties f q s is) = (refl, is)
  empties_only x e r none (settles q run is) = absurd (some_none (sym e))
  empties_only x e r none (breaks q run is) = absurd (some_none (sym e))
  empties_only x e r none (saves q is) = absurd (some_none (sym e))
  empties_only x e r none (restores q is) = absurd (some_none (sym e))

  settles_step : {v : World} {b : Answer} (t : Table) (k : ℕ) → is_void n w.table ≡ false → refusal n most w Settle ≡ None → Settles n rules w.agenda w.table k settled t → Step n most rules w v Settle b → (b ≡ Settled k (values n w.table - values n t)) × (v ≡ settled_by t w)
  settles_step t k full r run (refused q is) = absurd (some_none (sym q ∙ r))
  settles_step t k full r run (stirs f q some is) = absurd (some_none (sym f))
  settles_step t k full r run (empties f q none is) = absurd (some_none (sym f))
  settles_step t k full r run (settles q other is) =
      let s = settles_only full other run in
      let same = s.2 refl in
      (ap₂ (λ (m : ℕ) (u : Table). Settled m (values n w.table - values n u)) s.0 same, is ∙ ap (λ (u : Table). settled_by u w) same)
  settles_step t k full r run (breaks {i = i} q other is) = absurd (failed_settled i (settles_only full other run).1)

  breaks_step : {v : World} {b : Answer} (t : Table) (i k : ℕ) → is_void n w.table ≡ false → refusal n most w Settle ≡ None → Settles n rules w.agenda w.table k (failed i) t → Step n most rules w v Settle b → (b ≡ Failed i k) × Alike v (broken_by t w)
  breaks_step t i k full r run (refused q is) = absurd (some_none (sym q ∙ r))
  breaks_step t i k full r run (stirs f q some is) = absurd (some_none (sym f))
  breaks_step t i k full r run (empties f q none is) = absurd (some_none (sym f))
  breaks_step t i k full r run (settles q other is) = absurd (failed_settled i (settles_only full run other).1)
  breaks_step {v} t i k full r run (breaks {t = u} {i = j} q other is) =
      let s = settles_only full other run in
      (ap₂ (λ (a b : ℕ). Failed a b) (ap at s.1) s.0, subst (λ (z : World). Alike z (broken_by t w)) (sym is) (record { standing = refl; agenda = refl; saves = refl; saved = refl; table = λ e. absurd (both_ways true e refl) }))
    where
      at : Outcome → ℕ
      at settled = 0
      at (failed j) = j

  saves_only : {v : World} {b : Answer} → refusal n most w Save ≡ None → Step n most rules w v Save b → (b ≡ Done) × (v ≡ saved_by w)
  saves_only r (refused q is) = absurd (some_none (sym q ∙ r))
  saves_only r (stirs f q some is) = absurd (some_none (sym f))
  saves_only r (empties f q none is) = absurd (some_none (sym f))
  saves_only r (saves q is) = (refl, is)

  restores_only : {v : World} {b : Answer} → refusal n most w Restore ≡ None → Step n most rules w v Restore b → (b ≡ Done) × (v ≡ restored_by w)
  restores_only r (refused q is) = absurd (some_none (sym q ∙ r))
  restores_only r (stirs f q some is) = absurd (some_none (sym f))
  restores_only r (empties f q none is) = absurd (some_none (sym f))
  restores_only r (restores q is) = (refl, is)

  -- where the table is not void unless the session stands failed, a step fixes what can be answered
  pub step_only : {w' : World} {c : Call} {a : Answer} → (is_failed w.standing ≡ false → is_void n w.table ≡ false) → Step n most rules w w' c a → (b : Answer) (v : World) → Step n most rules w v c b → (b ≡ a) × Alike v w'
  step_only full (refused {f = f} r is) b v s = let q = refused_only f r s in (q.0, alike_same (q.1 ∙ sym is))
  step_only full (stirs {x = x} e r some is) b v s = let q = stirs_only x e r some s in (q.0, alike_same (q.1 ∙ sym is))
  step_only full (empties {x = x} e r none is) b v s = let q = empties_only x e r none s in (q.0, alike_same (q.1 ∙ sym is))
  step_only full (settles {t = t} {k = k} r run is) b v s = let q = settles_step t k (full (settle_granted n most w r)) r run s in (q.0, alike_same (q.1 ∙ sym is))
  step_only full (breaks {t = t} {i = i} {k = k} r run is) b v s = let q = breaks_step t i k (full (settle_granted n most w r)) r run s in (q.0, subst (λ (z : World). Alike v z) (sym is) q.1)
  step_only full (saves r is) b v s = let q = saves_only r s in (q.0, alike_same (q.1 ∙ sym is))
  step_only full (restores r is) b v s = let q = restores_only r s in (q.0, alike_same (q.1 ∙ sym is))

  -- failed with no save of its own: nothing changes any more
  pub stuck : w.standing ≡ standing.Failed → w.saves ≡ 0 → (c : Call) (a : Answer) (v : World) → Step n most rules w v c a → v ≡ w
  stuck f z c _ v (refused r is) = is
  stuck f z c _ v (stirs {x = x} e r some is) = absurd (both_ways _ (order_granted n most w c x e r).0 (ap is_failed f))
  stuck f z c _ v (empties {x = x} e r none is) = absurd (both_ways _ (order_granted n most w c x e r).0 (ap is_failed f))
  stuck f z _ _ v (settles r run is) = absurd (both_ways _ (settle_granted n most w r) (ap is_failed f))
  stuck f z _ _ v (breaks r run is) = absurd (both_ways _ (settle_granted n most w r) (ap is_failed f))
  stuck f z _ _ v (saves r is) = absurd (both_ways _ (ap is_failed (save_granted n most w r)) (ap is_failed f))
  stuck f z _ _ v (restores r is) = absurd ((restore_granted n most w r).0 z)
