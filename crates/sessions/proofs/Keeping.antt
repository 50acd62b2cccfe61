-- The promises hold after every history, for every lawful bank.
use Rattle.std.proofs.Common.{◌≡◌, ℕ, ◌+◌, ◌≤◌, List, [], ◌∷◌, ◌++◌, length, sym, refl, ap, ◌∙◌, subst, arith}
use mathlib.Core.Path.{fun_ext}
use Rattle.std.proofs.lemmas.List.{length-append}
use Rattle.tables.specs.Tables.{Table, Shaped, Inside}
use Rattle.tables.proofs.Truths.{either}
use Rattle.rules.specs.Rules.{Rule, at}
use Rattle.rules.specs.Banks.{Lawfully}
use Rattle.rules.proofs.Voids.{inside_shaped}
use Rattle.sessions.specs.declared.standing.Standing.TheVariants as standing
use Rattle.sessions.specs.declared.call.Call.{Call}
use Rattle.sessions.specs.declared.answer.Answer.{Answer}
use Rattle.sessions.specs.Worlds.{World}
use Rattle.sessions.specs.Steps.{Step, refused, stirs, empties, settles, breaks, saves, restores}
use Rattle.sessions.specs.Histories.{History, Event, Lived, begun, stepped, orders, bounds}
use Rattle.sessions.specs.Promises.{Greatest, Bounded, Promises, Kept, Throughout, lost}
use Rattle.sessions.proofs.Settling.{Fair, Holding, holding_greatest}
use Rattle.sessions.proofs.Starting.{accepted_fair, settled_stands}
use Rattle.sessions.proofs.Living.{Noted, Sound, sound, lived_begun}
use Rattle.sessions.proofs.Assigning.{under_inside, not_lost, none_obeys, same_number, no_number, one_number}
use Rattle.sessions.proofs.Working.{few_runs}
use Rattle.sessions.proofs.Fixing.{step_only}

abbrev newest_of : History → Event → Event
newest_of [] d = d
newest_of (e ∷ h) d = e

abbrev older_of : History → History
older_of [] = []
older_of (e ∷ h) = h

-- tables inside each other are the same
inside_both : (t u : Table) → Inside t u → Inside u t → t ≡ u
inside_both t u a b = fun_ext (λ x. fun_ext (λ v. either (t x v) (u x v) (a x v) (b x v)))

module _ (n : ℕ) (rules : List Rule) (few : n ≤ 256) (law : Lawfully rules) where
  -- each note has its saved table
  noted_length : (start : Table) (notes : List (List Call)) (saved : List Table) → Noted n rules start notes saved → length notes ≤ length saved
  noted_length start [] saved q = omega arith
  noted_length start (note ∷ notes) [] q = absurd q
  noted_length start (note ∷ notes) (t ∷ saved) q = let m = noted_length start notes saved q.1 in omega arith

  -- what holds of a lived history
  living : (most : ℕ) (start : Table) (base : List Table) (h : History) (w : World) → Lived n most rules start base h w → Fair n rules × Sound n rules start h w × Shaped n (bounds start h)
  living most start base h w lived =
      let from = lived_begun lived in
      let fair = accepted_fair n rules start few law from.1 in
      (fair.0, sound n most rules fair.0 start fair.1 lived, inside_shaped n (bounds start h) start (under_inside (orders h).force start) from.0)

  -- as long as it stands settled the table is the greatest
  is_greatest : (most : ℕ) (start : Table) (base : List Table) (h : History) (w : World) → Lived n most rules start base h w → w.standing ≡ standing.Settled → Greatest n rules (bounds start h) w.table
  is_greatest most start base h w lived e =
      let l = living most start base h w lived in
      let s = l.1 in
      holding_greatest n rules l.0 (bounds start h) w.table s.shaped (subst (λ (a : List ℕ). Holding n rules (bounds start h) a w.table) (s.idle e) (s.holds (settled_stands w.standing e)))

  same_road : (start : Table) (most base h w : _) (most' base' h' w' : _) → Lived n most rules start base h w → w.standing ≡ standing.Settled → Lived n most' rules start base' h' w' → w'.standing ≡ standing.Settled → bounds start h' ≡ bounds start h → w'.table ≡ w.table
  same_road start most base h w most' base' h' w' lived e lived' e' same =
      let g = is_greatest most start base h w lived e in
      let g' : Greatest n rules (bounds start h) w'.table = subst (λ (b : Table). Greatest n rules b w'.table) same (is_greatest most' start base' h' w' lived' e') in
      inside_both w'.table w.table (g.greatest w'.table g'.stable) (g'.greatest w.table g.stable)

  pub keeps_promises : (most : ℕ) (start : Table) (base : List Table) (h : History) (w : World) → Lived n most rules start base h w → Promises n most rules start base h w
  keeps_promises most start base h w lived =
      let l = living most start base h w lived in
      let fair = l.0 in
      let s = l.1 in
      let b : Table = bounds start h in
      record {
        rests = s.calm;
        greatest = is_greatest most start base h w lived;
        none = s.broken;
        same = λ e. not_lost n rules fair b w.table l.2 (s.holds e).most;
        back = λ e a o. ((o.0.0, λ x k. (s.holds e).inside x (at a x) (o.0.1 x k)), o.1);
        many = λ e. same_number n rules fair b w.table l.2 (s.holds e).inside (s.holds e).most;
        lost = λ e. none_obeys n rules fair b l.2 (s.broken e);
        zero = λ e. no_number n rules fair b l.2 (s.broken e);
        one = λ e single.
            let holding = s.holds (settled_stands w.standing e) in
            same_number n rules fair b w.table l.2 holding.inside holding.most ∙ one_number n rules fair b w.table (is_greatest most start base h w lived e).stable single;
        road = λ e most' base' h' w' lived' e' same. same_road start most base h w most' base' h' w' lived e lived' e' same;
        waiting = s.waiting;
        own = let c = s.counted in let m = noted_length start (orders h).notes w.saved s.noted in omega arith;
      }

  work : (most : ℕ) (w w' : World) (c : Call) (a : Answer) → Fair n rules → Shaped n w.table → Step n most rules w w' c a → Bounded n rules w a w'
  work most w w' c _ fair shaped (refused r is) = tt
  work most w w' c _ fair shaped (stirs e r q is) = tt
  work most w w' c _ fair shaped (empties e r q is) = tt
  work most w w' _ _ fair shaped (settles {t = t} {k = k} r run is) = subst (λ (v : World). k ≤ length w.agenda + lost n rules w.table v.table) (sym is) (few_runs n rules fair run refl shaped)
  work most w w' _ _ fair shaped (breaks r run is) = tt
  work most w w' _ _ fair shaped (saves r is) = tt
  work most w w' _ _ fair shaped (restores r is) = tt

  -- one more call
  pub keeps : (most : ℕ) (start : Table) (base : List Table) (h : History) (w w' : World) (c : Call) (a : Answer) → Step n most rules w w' c a → Lived n most rules start base h w → Kept n most rules start base h c a w w'
  keeps most start base h w w' c a step lived =
      let l = living most start base h w lived in
      let more = stepped lived step in
      record {
        lived = more;
        promises = keeps_promises most start base _ w' more;
        bounded = work most w w' c a l.0 l.1.shaped step;
        only = step_only n most rules w (λ e. (l.1.holds e).full) step;
      }

  -- all that a history went through
  beginning : (most : ℕ) (start : Table) (base : List Table) (h : History) (w : World) → Lived n most rules start base h w → (v : World) × Lived n most rules start base [] v × Promises n most rules start base [] v
  beginning most start base h w (begun {w = v} b) = (v, begun b, keeps_promises most start base [] v (begun b))
  beginning most start base _ w (stepped {h = h} {w = v} lived step) = beginning most start base h v lived

  each_call : (most : ℕ) (start : Table) (base : List Table) (h : History) (w : World) → Lived n most rules start base h w → (later earlier : History) (e : Event) → h ≡ later ++ (e ∷ earlier) → (v v' : World) × Lived n most rules start base earlier v × Kept n most rules start base earlier e.call e.answer v v'
  each_call most start base _ w (begun b) later earlier e is = absurd (let l = ap length is ∙ length-append later (e ∷ earlier) in omega arith)
  each_call most start base _ w (stepped {h = h} {w = v} {c = c} {a = a} lived step) [] earlier e is =
      subst (λ (f : Event). (v v' : World) × Lived n most rules start base earlier v × Kept n most rules start base earlier f.call f.answer v v') (ap (λ (l : History). newest_of l e) is)
      (subst (λ (g : History). (v v' : World) × Lived n most rules start base g v × Kept n most rules start base g c a v v') (ap older_of is) (v, w, lived, keeps most start base h v w c a step lived))
  each_call most start base _ w (stepped {h = h} {w = v} lived step) (l ∷ later) earlier e is = each_call most start base h v lived later earlier e (ap older_of is)

  pub throughout : (most : ℕ) (start : Table) (base : List Table) (h : History) (w : World) → Lived n most rules start base h w → Throughout n most rules start base h w
  throughout most start base h w lived = record { lived = lived; promises = keeps_promises most start base h w lived; first = beginning most start base h w lived; each = each_call most start base h w lived }
