-- What holds while a session settles.
use Rattle.std.proofs.Common.{◌≡◌, ℕ, ◌<◌, ◌≤◌, Bool, true, false, cond, eqb, List, [], ◌∷◌, length, is_ok, Ok, Result, sym, refl, ap, ◌∙◌, subst, ⊎_elim, arith}
use Rattle.std.proofs.lemmas.Bool.{both_ways, cases_lt, cases_eq, ne_eqb, eq-eqb, or_from, or_left, or_right, le-leb}
use Rattle.tables.specs.Tables.{Table, Shaped, is_void, Inside}
use Rattle.rules.specs.declared.fault.RuleFault.{RuleFault}
use Rattle.rules.specs.Rules.{Rule, Lawful}
use Rattle.rules.specs.Banks.{called, count_of, woken, filtered, Run}
use Rattle.rules.proofs.Numbers.{called_past, woken_nobody}
use Rattle.rules.proofs.Voids.{inside_shaped, within_inside}
use Rattle.sessions.specs.Agendas.{member}
use Rattle.sessions.specs.Steps.{smaller, woke, Outcome, settled, failed, Settles, rests, fails, runs}
use Rattle.sessions.specs.Promises.{Stable, NoStable, Greatest}
use Rattle.sessions.proofs.Waits.{joined_from, joined_not}
use Rattle.sessions.proofs.Filters.{unwoken_agree, unshrunk_inside, still_fixed, just_ran, fixed_same}

-- The rules of an accepted beginning: few, all of them fit, and lawful.
pub record Fair (n : ℕ) (rules : List Rule) : Type 0 where
  pub few : n ≤ 256
  pub short : length rules ≤ 256
  pub fits : (i : ℕ) → i < length rules → (called rules i).fit n ≡ Ok tt
  pub laws : (i : ℕ) → i < length rules → Lawful n (called rules i)

-- every rule that waits is there
abbrev pub Low : List Rule → List ℕ → Type 0
Low rules agenda = (i : ℕ) → member i agenda ≡ true → i < length rules

-- The table t, with an agenda, is on the way from b to the greatest stable table inside b.
pub record Holding (n : ℕ) (rules : List Rule) (b : Table) (agenda : List ℕ) (t : Table) : Type 0 where
  pub full : is_void n t ≡ false
  pub inside : Inside t b
  -- no stable table was cut
  pub most : (u : Table) → Stable n rules b u → Inside u t
  -- a rule that does not wait leaves the table as it is
  pub fixed : (i : ℕ) → i < length rules → member i agenda ≡ false → Inside t ((called rules i).filter t)

-- settling only takes away
pub settles_inside : {n : ℕ} {rules : List Rule} {agenda : List ℕ} {t u : Table} {k : ℕ} {o : Outcome} → Settles n rules agenda t k o u → Inside u t
settles_inside rests = λ x v h. h
settles_inside (fails run) = run.inside
settles_inside (runs run more) = λ x v h. run.inside x v (settles_inside more x v h)

module _ (n : ℕ) (rules : List Rule) (fair : Fair n rules) where
  -- a rule that fits filters
  pub filters : (i : ℕ) → i < length rules → (t : Table) → filtered n (called rules i) t ≡ (called rules i).filter t
  filters i l t = ap (λ (q : Result (Unit {0}) RuleFault). cond (is_ok q) ((called rules i).filter t) t) (fair.fits i l)

  -- who is woken is there
  pub woken_low : (s : ℕ → Bool) (i : ℕ) → woken rules s i ≡ true → i < length rules
  woken_low s i h =
      ⊎_elim (λ low. low)
      (λ high.
      let c : count_of rules ≤ i = subst (λ (b : Bool). cond b (length rules) 257 ≤ i) (sym (le-leb (length rules) 256 fair.short)) high in
      absurd (both_ways (woken rules s i) (woken_nobody rules s i (called_past rules i c)) h))
      (cases_lt i (length rules))

  pub woke_low : (t u : Table) (agenda : List ℕ) → Low rules agenda → Low rules (woke rules t u agenda)
  woke_low t u agenda low i h = ⊎_elim (low i) (λ new. woken_low (smaller t u) i new.1) (joined_from agenda (woken rules (smaller t u)) i h)

  -- a rule that does not wait after the waking did not wait before and sees the same watched domains
  pub not_woke : (t u : Table) → Shaped n t → Inside u t → (agenda : List ℕ) (i : ℕ) → i < length rules → member i (woke rules t u agenda) ≡ false → (member i agenda ≡ false) × ((x : ℕ) → (called rules i).watches x ≡ true → t x ≡ u x)
  not_woke t u s inside agenda i l h =
      let q = joined_not agenda (woken rules (smaller t u)) i (let k = fair.short in omega arith) h in
      (q.0, unwoken_agree n rules u t fair.few s inside i q.1)

  -- a stable table survives a run
  pub survives : (b t : Table) → Shaped n t → ((u : Table) → Stable n rules b u → Inside u t) → (i : ℕ) → i < length rules → (u : Table) → Stable n rules b u → (is_void n ((called rules i).filter t) ≡ false) × Inside u ((called rules i).filter t)
  survives b t s most i l u stable = unshrunk_inside n (called rules i) (fair.laws i l) u t stable.shaped s stable.full (stable.unshrunk i l) (most u stable)

  -- the first rule of the agenda was run and did not fail
  pub run_holds : (b : Table) (i : ℕ) (rest s : List ℕ) (t u : Table) → i < length rules → Shaped n t → Holding n rules b (i ∷ rest) t → Run n (called rules i) t (Ok s) u → Shaped n u × Holding n rules b (woke rules t u rest) u
  run_holds b i rest s t u l shaped holding run =
      let exact = run.exact holding.full in
      let is : u ≡ (called rules i).filter t = exact.1 ∙ filters i l t in
      let full : is_void n u ≡ false = subst (λ (d : Table). is_void n d ≡ false) (sym exact.1) exact.0 in
      let su = inside_shaped n u t run.inside shaped in (
        su,
        record {
          full = full;
          inside = λ x v h. holding.inside x v (run.inside x v h);
          most = λ v stable. subst (λ (d : Table). Inside v d) (sym is) (survives b t shaped holding.most i l v stable).1;
          fixed = λ j lj out.
              let q = not_woke t u shaped run.inside rest j lj out in
              ⊎_elim
              (λ (e : j ≡ i). just_ran n (called rules j) (fair.laws j lj) t u shaped su holding.full full (subst (λ m. u ≡ (called rules m).filter t) (sym e) is) q.1)
              (λ ne. still_fixed n (called rules j) (fair.laws j lj) t u shaped su holding.full full (holding.fixed j lj (or_from (eqb j i) _ (ne_eqb j i ne) q.0)) q.1)
              (cases_eq j i);
        },
      )

  -- how a settle ends
  abbrev pub Ends : Table → Outcome → Table → Type 0
  Ends b settled t = Shaped n t × Holding n rules b [] t
  Ends b (failed i) t = NoStable n rules b

  pub settling : {agenda : List ℕ} {t u : Table} {k : ℕ} {o : Outcome} (b : Table) → Settles n rules agenda t k o u → Low rules agenda → Shaped n t → Holding n rules b agenda t → Ends b o u
  settling b rests low shaped holding = (shaped, holding)
  settling {agenda = i ∷ rest} {t = t} b (fails run) low shaped holding =
      let l = low i (or_left (eqb i i) _ (eq-eqb i i refl)) in
      λ v stable. both_ways (is_void n ((called rules i).filter t)) (survives b t shaped holding.most i l v stable).0 (subst (λ (d : Table). is_void n d ≡ true) (filters i l t) (run.exact holding.full))
  settling {agenda = i ∷ rest} {t = t} b (runs {s = s} {u = u} run more) low shaped holding =
      let l = low i (or_left (eqb i i) _ (eq-eqb i i refl)) in
      let next = run_holds b i rest s t u l shaped holding run in
      settling b more (woke_low t u rest (λ j h. low j (or_right (eqb j i) _ h))) next.0 next.1

  -- nothing waits: the table is the greatest
  pub holding_greatest : (b t : Table) → Shaped n t → Holding n rules b [] t → Greatest n rules b t
  holding_greatest b t s holding = record {
    stable = record {
      shaped = s;
      full = holding.full;
      inside = holding.inside;
      unshrunk = λ i l. fixed_same n (called rules i) (fair.laws i l) t s holding.full (holding.fixed i l refl);
    };
    greatest = holding.most;
  }

  pub greatest_holding : (b t : Table) → Greatest n rules b t → Holding n rules b [] t
  greatest_holding b t g = record {
    full = g.stable.full;
    inside = g.stable.inside;
    most = g.greatest;
    fixed = λ i l out. within_inside n t ((called rules i).filter t) (g.stable.unshrunk i l).1 g.stable.full;
  }
