-- What holds when an order is performed.
use Rattle.std.proofs.Common.{◌≡◌, ℕ, ◌<◌, Bool, true, false, not, ◌&&◌, ◌||◌, eqb, List, ℤ, is_some, Some, None, Option, sym, refl, ap, ◌∙◌, subst, ⊎_elim, arith}
use Rattle.std.proofs.Math.Bool.{and-true}
use mathlib.Core.Path.{fun_ext}
use lib.Signed.{le_z}
use Rattle.std.proofs.lemmas.Bool.{both_ways, cases_eq, eqb-true, eqb-false, eq-eqb, ne_eqb, and_parts, and_from, ltb-true}
use Rattle.tables.specs.Values.{equal_int}
use Rattle.tables.specs.Tables.{Domain, Table, size_of, Shaped, is_void, Inside}
use Rattle.rules.specs.Rules.{Rule}
use Rattle.rules.specs.Banks.{called}
use Rattle.rules.proofs.Voids.{full_at, full_from, inside_shaped, size_mono}
use Rattle.sessions.specs.declared.call.Call.{Call}
use Rattle.sessions.specs.declared.call.Call.TheVariants.{Strike, Narrow, Settle, Save, Restore}
use Rattle.sessions.specs.Worlds.{aimed, ordered}
use Rattle.sessions.specs.Steps.{smaller, woke}
use Rattle.sessions.specs.Histories.{aims}
use Rattle.sessions.specs.Promises.{Stable, NoStable}
use Rattle.sessions.proofs.Filters.{still_fixed}
use Rattle.sessions.proofs.Settling.{Fair, Holding, not_woke}

-- what an order allows, as a test of a variable and a value
abbrev pub allows : Call → ℕ → ℤ → Bool
allows (Strike x v) y w = not (eqb y x && equal_int w v)
allows (Narrow x lo hi) y w = not (eqb y x) || (le_z lo w && le_z w hi)
allows Settle y w = true
allows Save y w = true
allows Restore y w = true

pub ordered_is : (c : Call) (t : Table) (y : ℕ) (w : ℤ) → ordered c t y w ≡ (t y w && allows c y w)
ordered_is (Strike x v) t y w = refl
ordered_is (Narrow x lo hi) t y w = refl
ordered_is Settle t y w = sym (and-true (t y w))
ordered_is Save t y w = sym (and-true (t y w))
ordered_is Restore t y w = sym (and-true (t y w))

-- an order takes away
pub ordered_inside : (c : Call) (t : Table) → Inside (ordered c t) t
ordered_inside c t y w h = (and_parts (t y w) _ (sym (ordered_is c t y w) ∙ h)).0

pub ordered_mono : (c : Call) (t b : Table) → Inside t b → Inside (ordered c t) (ordered c b)
ordered_mono c t b i y w h =
    let p = and_parts (t y w) _ (sym (ordered_is c t y w) ∙ h) in
    ordered_is c b y w ∙ and_from (b y w) _ (i y w p.0) p.1

-- what lies inside b under an order and inside t lies inside t under the order
pub ordered_meets : (c : Call) (u t b : Table) → Inside u (ordered c b) → Inside u t → Inside u (ordered c t)
ordered_meets c u t b i j y w h = ordered_is c t y w ∙ and_from (t y w) _ (j y w h) (and_parts (b y w) _ (sym (ordered_is c b y w) ∙ i y w h)).1

pub some_is : {a b : ℕ} → Some a ≡ Some b → a ≡ b
some_is {a} {b} e = ap got e
  where
    got : Option ℕ → ℕ
    got (Some k) = k
    got None = 0

-- other variables stay
pub beside : (c : Call) (x : ℕ) → aimed c ≡ Some x → (t : Table) (y : ℕ) → (y ≡ x → ⊥) → ordered c t y ≡ t y
beside (Strike z v) x e t y ne = fun_ext (λ w. ap (λ (b : Bool). t y w && not (b && equal_int w v)) (ne_eqb y z (λ q. ne (q ∙ some_is e))) ∙ and-true (t y w))
beside (Narrow z lo hi) x e t y ne = fun_ext (λ w. ap (λ (b : Bool). t y w && (not b || (le_z lo w && le_z w hi))) (ne_eqb y z (λ q. ne (q ∙ some_is e))) ∙ and-true (t y w))
beside Settle x e t y ne = refl
beside Save x e t y ne = refl
beside Restore x e t y ne = refl

-- only the variable of the order gets smaller
pub smaller_aimed : (c : Call) (x : ℕ) → aimed c ≡ Some x → (t : Table) (y : ℕ) → smaller t (ordered c t) y ≡ true → y ≡ x
smaller_aimed c x e t y h =
    ⊎_elim (λ q. q)
    (λ ne. let l = ltb-true _ _ h in let same = ap size_of (beside c x e t y ne) in absurd (omega arith))
    (cases_eq y x)

-- a call that names a variable is an order on it
pub aims_aimed : (c : Call) (x : ℕ) → aimed c ≡ Some x → aims c x ≡ true
aims_aimed (Strike y v) x e = eq-eqb x y (sym (some_is e))
aims_aimed (Narrow y lo hi) x e = eq-eqb x y (sym (some_is e))
aims_aimed Settle x e = absurd (both_ways false refl (ap is_some e))
aims_aimed Save x e = absurd (both_ways false refl (ap is_some e))
aims_aimed Restore x e = absurd (both_ways false refl (ap is_some e))

module _ (n : ℕ) (rules : List Rule) (fair : Fair n rules) where
  -- the tables that a stable one of the narrower bounds lies inside
  pub under_order : (c : Call) (b u : Table) → Stable n rules (ordered c b) u → Stable n rules b u
  under_order c b u s = record { shaped = s.shaped; full = s.full; inside = λ x v h. ordered_inside c b x v (s.inside x v h); unshrunk = s.unshrunk }

  pub order_most : (c : Call) (b t : Table) → ((u : Table) → Stable n rules b u → Inside u t) → (u : Table) → Stable n rules (ordered c b) u → Inside u (ordered c t)
  order_most c b t most u s = ordered_meets c u t b s.inside (most u (under_order c b u s))

  -- an order that left its variable a value
  pub order_holds : (c : Call) (x : ℕ) → aimed c ≡ Some x → (b t : Table) (agenda : List ℕ) → Shaped n t → Holding n rules b agenda t → eqb (size_of (ordered c t x)) 0 ≡ false → Holding n rules (ordered c b) (woke rules t (ordered c t) agenda) (ordered c t)
  order_holds c x e b t agenda shaped holding some =
      let su = inside_shaped n (ordered c t) t (ordered_inside c t) shaped in
      let full : is_void n (ordered c t) ≡ false =
      full_from n (ordered c t) (λ y l. ⊎_elim
      (λ (q : y ≡ x). subst (λ z. 0 < size_of (ordered c t z)) (sym q) (let no = eqb-false _ 0 some in omega arith))
      (λ ne. subst (λ (d : Domain). 0 < size_of d) (sym (beside c x e t y ne)) (full_at n t holding.full y l))
      (cases_eq y x)) in
      record {
        full = full;
        inside = ordered_mono c t b holding.inside;
        most = order_most c b t holding.most;
        fixed = λ j lj out.
            let q = not_woke n rules fair t (ordered c t) shaped (ordered_inside c t) agenda j lj out in
            still_fixed n (called rules j) (fair.laws j lj) t (ordered c t) shaped su holding.full full (holding.fixed j lj q.0) q.1;
      }

  -- an order that left its variable none
  pub order_empties : (c : Call) (x : ℕ) → x < n → (b t : Table) (agenda : List ℕ) → Holding n rules b agenda t → eqb (size_of (ordered c t x)) 0 ≡ true → NoStable n rules (ordered c b)
  order_empties c x l b t agenda holding none u s =
      let i = order_most c b t holding.most u s in
      let m = size_mono (u x) (ordered c t x) (i x) in
      let z = eqb-true _ 0 none in
      let p = full_at n u s.full x l in
      omega arith
