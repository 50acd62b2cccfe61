-- An assignment that obeys is never lost: alone it is a table that no rule shrinks.
use Rattle.std.proofs.Common.{◌≡◌, ℕ, zero, suc, ◌<◌, ◌≤◌, Bool, true, cond, ◌&&◌, ltb, List, [], ◌∷◌, length, get_or, ℤ, sym, refl, ap, subst, inr, ⊎_elim, le_of_suc-le-suc, not-suc-le-zero, arith}
use Rattle.std.proofs.lemmas.Bool.{cases_Bool, and_parts, and_from, lt-ltb, ltb-true, le-leb}
use Rattle.tables.specs.Values.{equal_int}
use Rattle.tables.specs.Tables.{Table, Shaped, Inside}
use Rattle.tables.proofs.Places.{equal_true, equal_same}
use Rattle.tables.proofs.Truths.{either}
use Rattle.rules.specs.Rules.{Rule, Assignment, at, In, Single}
use Rattle.rules.specs.Banks.{called, nobody}
use Rattle.rules.proofs.Voids.{in_full}
use Rattle.sessions.specs.declared.call.Call.{Call}
use Rattle.sessions.specs.Histories.{under}
use Rattle.sessions.specs.Numbers.{obeys_all, obeying}
use Rattle.sessions.specs.Promises.{Stable, NoStable, Obeys}
use Rattle.sessions.proofs.Settling.{Fair}
use Rattle.sessions.proofs.Ordering.{ordered_inside}
use Rattle.sessions.proofs.Counting.{in_from, in_test, test_in, number_same, number_none, number_one}

-- orders take away
pub under_inside : (cs : List Call) (t : Table) → Inside (under cs t) t
under_inside [] t x v h = h
under_inside (c ∷ cs) t x v h = under_inside cs t x v (ordered_inside c (under cs t) x v h)

-- the table of one assignment
abbrev pub alone : ℕ → Assignment → Table
alone n a x v = ltb x n && equal_int v (at a x)

pub alone_is : (n : ℕ) (a : Assignment) (x : ℕ) (v : ℤ) → alone n a x v ≡ true → (x < n) × (v ≡ at a x)
alone_is n a x v h = let p = and_parts (ltb x n) _ h in (ltb-true x n p.0, equal_true v (at a x) p.1)

pub alone_in : (n : ℕ) (a : Assignment) → length a ≡ n → In n (alone n a) a
alone_in n a e = (e, λ x l. and_from (ltb x n) _ (lt-ltb x n l) (equal_same (at a x) (at a x) refl))

pub alone_inside : (n : ℕ) (t : Table) (a : Assignment) → In n t a → Inside (alone n a) t
alone_inside n t a h x v q = let p = alone_is n a x v q in subst (λ u. t x u ≡ true) (sym p.1) (h.1 x p.0)

-- and back: a table that has it as a part has the assignment
pub alone_back : (n : ℕ) (t : Table) (a : Assignment) → length a ≡ n → Inside (alone n a) t → In n t a
alone_back n t a e i = (e, λ x l. i x (at a x) ((alone_in n a e).1 x l))

-- ---- all rules

-- an assignment that obeys all rules obeys each
each_obeyed : (rules : List Rule) (a : Assignment) → obeys_all rules a ≡ true → (i : ℕ) → i < length rules → (get_or rules i nobody).obeyed a ≡ true
each_obeyed [] a h i l = absurd (not-suc-le-zero l)
each_obeyed (r ∷ rs) a h zero l = (and_parts (r.obeyed a) _ h).0
each_obeyed (r ∷ rs) a h (suc i) l = each_obeyed rs a (and_parts (r.obeyed a) _ h).1 i (le_of_suc-le-suc l)

all_obeyed : (rules : List Rule) (a : Assignment) → ((i : ℕ) → i < length rules → (get_or rules i nobody).obeyed a ≡ true) → obeys_all rules a ≡ true
all_obeyed [] a f = refl
all_obeyed (r ∷ rs) a f = and_from (r.obeyed a) _ (f 0 (omega arith)) (all_obeyed rs a (λ i l. f (suc i) (omega arith)))

-- in a bank of at most 256 the rule of a number is the one at its place
called_at : (rules : List Rule) → length rules ≤ 256 → (i : ℕ) → called rules i ≡ get_or rules i nobody
called_at rules short i = ap (λ (b : Bool). cond b (get_or rules i nobody) nobody) (le-leb (length rules) 256 short)

module _ (n : ℕ) (rules : List Rule) (fair : Fair n rules) where
  -- an assignment that obeys is a stable table
  pub alone_stable : (b : Table) → Shaped n b → (a : Assignment) → Obeys n rules b a → Stable n rules b (alone n a)
  alone_stable b sb a obeys =
      let i = alone_inside n b a obeys.0 in
      let inn = alone_in n a obeys.0.0 in
      let s : Shaped n (alone n a) = λ x v h. sb x v (i x v h) in
      record {
        shaped = s;
        full = in_full n (alone n a) a s inn;
        inside = i;
        unshrunk = λ k l.
            let law = fair.laws k l in
            let obeyed = subst (λ (r : Rule). r.obeyed a ≡ true) (sym (called_at rules fair.short k)) (each_obeyed rules a obeys.1 k l) in
            (law.shrinks (alone n a) s, inr (alone_inside n ((called rules k).filter (alone n a)) a (law.sound (alone n a) s a inn obeyed)));
      }

  -- so it lies in every table that all stable ones lie inside
  pub not_lost : (b t : Table) → Shaped n b → ((u : Table) → Stable n rules b u → Inside u t) → (a : Assignment) → Obeys n rules b a → Obeys n rules t a
  not_lost b t sb most a obeys = (alone_back n t a obeys.0.0 (most (alone n a) (alone_stable b sb a obeys)), obeys.1)

  pub none_obeys : (b : Table) → Shaped n b → NoStable n rules b → (a : Assignment) → Obeys n rules b a → ⊥
  none_obeys b sb none a obeys = none (alone n a) (alone_stable b sb a obeys)

  pub same_number : (b t : Table) → Shaped n b → Inside t b → ((u : Table) → Stable n rules b u → Inside u t) → obeying n rules b ≡ obeying n rules t
  same_number b t sb inside most =
      number_same n 0 b t (obeys_all rules) (λ a e. either _ _
      (λ h. let p = and_parts (in_from 0 b a) _ h in let q = not_lost b t sb most a (test_in n b a e p.0, p.1) in and_from (in_from 0 t a) _ (in_test n t a q.0) q.1)
      (λ h. let p = and_parts (in_from 0 t a) _ h in let q = test_in n t a e p.0 in and_from (in_from 0 b a) _ (in_test n b a (q.0, λ x l. inside x (at a x) (q.1 x l))) p.1))

  pub no_number : (b : Table) → Shaped n b → NoStable n rules b → obeying n rules b ≡ 0
  no_number b sb none =
      number_none n 0 b (obeys_all rules) (λ a e. ⊎_elim
      (λ yes. let p = and_parts (in_from 0 b a) _ yes in absurd (none_obeys b sb none a (test_in n b a e p.0, p.1)))
      (λ no. no)
      (cases_Bool (in_from 0 b a && obeys_all rules a)))

  -- one value in each domain, and no rule shrinks the table: exactly one assignment obeys
  pub one_number : (b t : Table) → Stable n rules b t → Single n t → obeying n rules t ≡ 1
  one_number b t stable single =
      number_one n 0 t (obeys_all rules) (λ y l m. single y (omega arith))
      (λ a e h. all_obeyed rules a (λ i l.
      subst (λ (r : Rule). r.obeyed a ≡ true) (called_at rules fair.short i)
      ((fair.laws i l).decides t stable.shaped single (stable.unshrunk i l) a (test_in n t a e h))))
