-- From what the code does to the steps of a session.
use Rattle.std.proofs.Common.{◌≡◌, ℕ, ◌-◌, Bool, true, false, cond, not, ◌&&◌, ◌||◌, eqb, ltb, List, ℤ, is_ok, IfSome, is_some, Some, None, Ok, Err, Option, Result, sym, refl, ap, ◌∙◌, subst, ap₂, ⊎_elim}
use mathlib.Core.Path.{fun_ext}
use Rattle.std.specs.Option.{ok_or}
use lib.Signed.{le_z}
use Rattle.std.proofs.lemmas.Bool.{both_ways, cases_Bool, cond-true, cond-false}
use Rattle.tables.specs.Values.{is_value, equal_int}
use Rattle.tables.specs.Rows.{in_row}
use Rattle.tables.specs.Tables.{Table, size_of, Shaped, kept}
use Rattle.tables.specs.Stores.{Frame}
use Rattle.rules.specs.Rules.{Rule}
use Rattle.sessions.specs.declared.standing.Standing.TheVariants as standing
use Rattle.sessions.specs.declared.call.Call.{Call}
use Rattle.sessions.specs.declared.call.Call.TheVariants.{Strike, Narrow, Settle, Save, Restore}
use Rattle.sessions.specs.declared.fault.SessionFault.{SessionFault}
use Rattle.sessions.specs.declared.fault.SessionFault.TheVariants as fault
use Rattle.sessions.specs.Worlds.{World, is_failed, when, refusal, ordered}
use Rattle.sessions.specs.Steps.{values, woke, settled, failed, Settles, broken_by, settled_by, saved_by, restored_by, refused, stirs, empties, settles, breaks, saves, restores}
use Rattle.session.specs.declared.outcome.Ordered.{Ordered}
use Rattle.session.specs.declared.outcome.Ordered.TheVariants as outcome
use Rattle.session.specs.declared.outcome.Propagated.TheVariants as propagated
use Rattle.session.specs.Answers.{answer_of_order, answer_of_settle, answer_of_plain, verdict}
use Rattle.session.specs.Meaning.{Steps, IsOrder, after_order}

-- a verdict that passes, and one that does not
pub passes : (o : Option SessionFault) (u : Unit {0}) → Ok u ≡ verdict o → o ≡ None
passes None u e = refl
passes (Some f) u e = absurd (both_ways true (ap is_ok e) refl)

pub refuses : (o : Option SessionFault) (f : SessionFault) → Err f ≡ verdict o → o ≡ Some f
refuses None f e = absurd (both_ways false refl (ap is_ok e))
refuses (Some g) f e = ap Some (sym (ap fault_of e))
  where
    fault_of : Result (Unit {0}) SessionFault → SessionFault
    fault_of (Ok u) = f
    fault_of (Err h) = h

-- ---- orders

-- a refusal before an order's numbers are looked at, and none
barred : (a b : Bool) (rest : Option SessionFault) (e : SessionFault) → Err e ≡ verdict (when a fault.Failed (when b fault.Variable None)) → when a fault.Failed (when b fault.Variable rest) ≡ Some e
barred true b rest e v = refuses (Some fault.Failed) e v
barred false true rest e v = refuses (Some fault.Variable) e v
barred false false rest e v = absurd (both_ways false refl (ap is_ok v))

free : (a b : Bool) (rest : Option SessionFault) (u : Unit {0}) → Ok u ≡ verdict (when a fault.Failed (when b fault.Variable None)) → when a fault.Failed (when b fault.Variable rest) ≡ rest
free true b rest u v = absurd (both_ways true (ap is_ok v) refl)
free false true rest u v = absurd (both_ways true (ap is_ok v) refl)
free false false rest u v = refl

module _ (f : Frame) (rules : List Rule) (c : Call) (x : ℕ) (w : World) where
  -- what an order is refused with before its numbers are looked at
  abbrev pub bars : Option SessionFault
  bars = when (is_failed w.standing) fault.Failed (when (not (ltb x f.vars)) fault.Variable None)

  pub order_barred : (rest : Option SessionFault) → refusal f.vars f.most w c ≡ when (is_failed w.standing) fault.Failed (when (not (ltb x f.vars)) fault.Variable rest) → (w' : World) (e : SessionFault) → Err e ≡ verdict bars → w' ≡ w → Steps f rules c (answer_of_order (Err e)) w w'
  order_barred rest is w' e v same = refused (is ∙ barred (is_failed w.standing) (not (ltb x f.vars)) rest e v) same

  pub order_refused : (row : Option (List ℕ)) → IsOrder f.vars c x row w.table → (w' : World) (e : SessionFault) → Err e ≡ verdict bars → w' ≡ w → Steps f rules c (answer_of_order (Err e)) w w'
  order_refused row is w' e v same = order_barred _ (is.refuses f.most w) w' e v same

  -- its numbers are not in order
  pub order_unfit : IsOrder f.vars c x None w.table → (w' : World) (u : Unit {0}) → Ok u ≡ verdict bars → w' ≡ w → Steps f rules c (answer_of_order (Err fault.Value)) w w'
  order_unfit is w' u v same = refused (is.refuses f.most w ∙ free (is_failed w.standing) (not (ltb x f.vars)) _ u v) same

  pub order_done : (row : List ℕ) → IsOrder f.vars c x (Some row) w.table → (w' : World) (a : Ordered) (u : Unit {0}) → Ok u ≡ verdict bars → w' ≡ after_order rules x (kept x row w.table) w → a ≡ cond (eqb (size_of (kept x row w.table x)) 0) outcome.Emptied outcome.Done → Steps f rules c (answer_of_order (Ok a)) w w'
  order_done row is w' a u v at ans =
      let passed = is.refuses f.most w ∙ free (is_failed w.standing) (not (ltb x f.vars)) _ u v in
      let leaves = is.leaves in
      ⊎_elim
      (λ none.
      subst (λ (b : Ordered). Steps f rules c (answer_of_order (Ok b)) w w') (sym (ans ∙ cond-true _ _ _ none))
      (empties is.aims passed (ap (λ (t : Table). eqb (size_of (t x)) 0) leaves ∙ none) (at ∙ cond-true _ _ _ none ∙ ap (λ (t : Table). broken_by t w) (sym leaves))))
      (λ some.
      subst (λ (b : Ordered). Steps f rules c (answer_of_order (Ok b)) w w') (sym (ans ∙ cond-false _ _ _ some))
      (stirs is.aims passed (ap (λ (t : Table). eqb (size_of (t x)) 0) leaves ∙ some) (at ∙ cond-false _ _ _ some ∙ ap (λ (t : Table). record { standing = standing.Stirred; agenda = woke rules w.table t w.agenda; saves = w.saves; table = t; saved = w.saved }) (sym leaves))))
      (cases_Bool (eqb (size_of (kept x row w.table x)) 0))

-- whether there is a row, by what was handed on
pub row_there : (row : Option (List ℕ)) (e : SessionFault) (r : List ℕ) → ok_or row e ≡ Ok r → row ≡ Some r
row_there None e r is = absurd (both_ways false refl (ap is_ok is))
row_there (Some q) e r is = cc

pub row_none : (row : Option (List ℕ)) (e f : SessionFault) → ok_or row e ≡ Err f → (row ≡ None) × (f ≡ e)
row_none None e f is = (refl, cc)
row_none (Some q) e f is = absurd (both_ways true (ap is_ok is) refl)

-- what is kept at one variable by a test of its values
row_at : (t b p q : Bool) → (t ≡ true → p ≡ q) → (t && (not b || p)) ≡ (t && (not b || q))
row_at false b p q f = refl
row_at true b p q f = ap (λ (r : Bool). not b || r) (f refl)

struck : (t b q : Bool) → (t && not (b && q)) ≡ (t && (not b || not q))
struck false b q = refl
struck true false q = refl
struck true true q = refl

-- what is refused where there is no row
unfit_row : (n most : ℕ) (w : World) (x : ℕ) (b good : Bool) → b ≡ good → when (is_failed w.standing) fault.Failed (when (not (ltb x n)) fault.Variable (when (not good) fault.Value None)) ≡ when (is_failed w.standing) fault.Failed (when (not (ltb x n)) fault.Variable (when (not b) fault.Value None))
unfit_row n most w x b good e = ap (λ (q : Bool). when (is_failed w.standing) fault.Failed (when (not (ltb x n)) fault.Variable (when (not q) fault.Value None))) (sym e)

pub is_strike : (n x : ℕ) (v : ℤ) (row : Option (List ℕ)) (t : Table) → Shaped n t → is_some row ≡ is_value v → IfSome row (λ r. (u : ℤ) → in_row r u ≡ (is_value u && not (equal_int u v))) → IsOrder n (Strike x v) x row t
is_strike n x v row t shaped there is = record {
  aims = refl;
  refuses = λ most w. unfit_row n most w x (is_some row) (is_value v) there;
  leaves = leaves row is;
}
  where
    leaves : (row : Option (List ℕ)) → IfSome row (λ r. (u : ℤ) → in_row r u ≡ (is_value u && not (equal_int u v))) → IfSome row (λ r. ordered (Strike x v) t ≡ kept x r t)
    leaves None is = tt
    leaves (Some r) is = fun_ext (λ y. fun_ext (λ u. struck (t y u) (eqb y x) (equal_int u v) ∙ row_at (t y u) (eqb y x) (not (equal_int u v)) (in_row r u) (λ h. sym (is u ∙ ap (λ (b : Bool). b && not (equal_int u v)) (shaped y u h).1))))

pub is_narrow : (n x : ℕ) (lo hi : ℤ) (row : Option (List ℕ)) (t : Table) → Shaped n t → is_some row ≡ (is_value lo && (is_value hi && le_z lo hi)) → IfSome row (λ r. (u : ℤ) → in_row r u ≡ (is_value u && (le_z lo u && le_z u hi))) → IsOrder n (Narrow x lo hi) x row t
is_narrow n x lo hi row t shaped there is = record {
  aims = refl;
  refuses = λ most w. unfit_row n most w x (is_some row) _ there;
  leaves = leaves row is;
}
  where
    leaves : (row : Option (List ℕ)) → IfSome row (λ r. (u : ℤ) → in_row r u ≡ (is_value u && (le_z lo u && le_z u hi))) → IfSome row (λ r. ordered (Narrow x lo hi) t ≡ kept x r t)
    leaves None is = tt
    leaves (Some r) is = fun_ext (λ y. fun_ext (λ u. row_at (t y u) (eqb y x) (le_z lo u && le_z u hi) (in_row r u) (λ h. sym (is u ∙ ap (λ (b : Bool). b && (le_z lo u && le_z u hi)) (shaped y u h).1))))

-- ---- settles

module _ (f : Frame) (rules : List Rule) (w : World) where
  pub settle_refused : (w' : World) → is_failed w.standing ≡ true → w' ≡ w → Steps f rules Settle (answer_of_settle (Err fault.Failed)) w w'
  settle_refused w' e same = refused (cond-true _ _ _ e) same

  pub settle_settles : (w' : World) (k before after : ℕ) → is_failed w.standing ≡ false → Settles f.vars rules w.agenda w.table k settled w'.table → before ≡ values f.vars w.table → after ≡ values f.vars w'.table → w' ≡ settled_by w'.table w → Steps f rules Settle (answer_of_settle (Ok (propagated.Settled k (before - after)))) w w'
  settle_settles w' k before after e run eb ea is =
      subst (λ m. Steps f rules Settle (answer_of_settle (Ok (propagated.Settled k m))) w w') (sym (ap₂ (λ a b. a - b) eb ea)) (settles (cond-false _ _ _ e) run is)

  pub settle_breaks : (w' : World) (i k : ℕ) → is_failed w.standing ≡ false → Settles f.vars rules w.agenda w.table k (failed i) w'.table → w' ≡ broken_by w'.table w → Steps f rules Settle (answer_of_settle (Ok (propagated.Failed i k))) w w'
  settle_breaks w' i k e run is = breaks (cond-false _ _ _ e) run is

-- ---- saves and restores

module _ (f : Frame) (rules : List Rule) (w w' : World) where
  pub save_step : (r : Result (Unit {0}) SessionFault) → r ≡ verdict (refusal f.vars f.most w Save) → w' ≡ cond (is_ok r) (saved_by w) w → Steps f rules Save (answer_of_plain r) w w'
  save_step (Ok u) e is = saves (passes _ u e) is
  save_step (Err g) e is = refused (refuses _ g e) is

  pub restore_step : (r : Result (Unit {0}) SessionFault) → r ≡ verdict (refusal f.vars f.most w Restore) → w' ≡ cond (is_ok r) (restored_by w) w → Steps f rules Restore (answer_of_plain r) w w'
  restore_step (Ok u) e is = restores (passes _ u e) is
  restore_step (Err g) e is = refused (refuses _ g e) is
