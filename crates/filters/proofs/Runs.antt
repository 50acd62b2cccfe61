-- A run as keeps one after another: what each does, and how a run ends.
use Rattle.std.proofs.Common.{◌≡◌, ℕ, ◌<◌, ◌≤◌, Bool, true, false, cond, not, ◌&&◌, ◌||◌, eqb, ltb, List, is_ok, Ok, Err, sym, refl, ap, ◌∙◌, subst, ap₂, ⊎_elim, arith}
use mathlib.Core.Path.{fun_ext}
use Rattle.std.specs.Result.{IsErr}
use Rattle.std.proofs.lemmas.Bool.{cases_eq, cases_lt, eqb-true, eqb-false, eq-eqb, ne_eqb, and_parts, lt-ltb, le-ltb, not-true, not-false, both_ways}
use Rattle.std.proofs.lemmas.Bool.Decides.{nat_tests}
use Rattle.tables.specs.Tables.{Table, Shaped, size_of, is_void, Inside, kept}
use Rattle.tables.proofs.Counts.{size_none}
use Rattle.tables.proofs.Keeps.{kept_beside, nothing_outside}
use Rattle.rules.specs.declared.ran.Failed.{Failed}
use Rattle.rules.specs.Rules.{Rule}
use Rattle.rules.specs.Banks.{in_set, nothing, Ran, Named, Exact, Run}
use Rattle.rules.proofs.Numbers.{nothing_in}
use Rattle.rules.proofs.Voids.{size_mono, void_at, void_inside, full_at, full_from}
use Rattle.filters.specs.Running.{Running}

-- ---- one keep

pub kept_inside : (x : ℕ) (row : List ℕ) (t : Table) → Inside (kept x row t) t
kept_inside x row t z v h = (and_parts (t z v) _ h).0

pub kept_same : (x : ℕ) (row : List ℕ) (t : Table) (z : ℕ) → (z ≡ x → ⊥) → kept x row t z ≡ t z
kept_same x row t z ne = fun_ext (λ v. kept_beside x row t z v ne)

-- only the variable's own domain can get smaller
pub smaller_at : (x : ℕ) (row : List ℕ) (t : Table) (z : ℕ) → ltb (size_of (kept x row t z)) (size_of (t z)) ≡ (eqb z x && ltb (size_of (kept x row t x)) (size_of (t x)))
smaller_at x row t z =
    ⊎_elim
    (λ (e : z ≡ x). ap (λ i. ltb (size_of (kept x row t i)) (size_of (t i))) e ∙ sym (ap (λ (b : Bool). b && ltb (size_of (kept x row t x)) (size_of (t x))) (eq-eqb z x e)))
    (λ ne. let s = ap size_of (kept_same x row t z ne) in le-ltb (size_of (kept x row t z)) (size_of (t z)) (omega arith) ∙ sym (ap (λ (b : Bool). b && ltb (size_of (kept x row t x)) (size_of (t x))) (ne_eqb z x ne)))
    (cases_eq z x)

pub less_chain : (a b c : ℕ) → c ≤ b → b ≤ a → ltb c a ≡ (ltb b a || ltb c b)
less_chain a b c p q = grind (arith, nat_tests)

pub swap : (a b : Bool) → (a && (b && true)) ≡ (b && a)
swap true true = refl
swap true false = refl
swap false true = refl
swap false false = refl

-- ---- a run under way

-- before its first keep
pub running_none : (n : ℕ) (t : Table) → Running n t nothing t
running_none n t = record {
  inside = λ x v h. h;
  named = λ x. nothing_in x ∙ sym (le-ltb (size_of (t x)) (size_of (t x)) (omega arith));
  full = λ h. h;
}

module _ (n : ℕ) (few : n ≤ 256) (t : Table) (shaped : Shaped n t) (x : ℕ) (row : List ℕ) (after : Table) (is : after ≡ kept x row t) where
  after_inside : Inside after t
  after_inside = subst (λ u. Inside u t) (sym is) (kept_inside x row t)

  -- a variable with a value left is there
  low : eqb (size_of (after x)) 0 ≡ false → x < n
  low left =
      ⊎_elim (λ l. l)
      (λ high. absurd (eqb-false (size_of (after x)) 0 left (let z = size_none (t x) (λ v h. nothing_outside n t shaped x high v) in let l = size_mono (after x) (t x) (after_inside x) in omega arith)))
      (cases_lt x n)

  -- after one more keep that left its variable a value
  pub running_more : (found : Table) (set set' : List ℕ) → Running n found set t → not (eqb (size_of (after x)) 0) ≡ true → ((z : ℕ) → in_set set' z ≡ (in_set set z || (ltb (size_of (after x)) (size_of (t x)) && (eqb z x && ltb x 256)))) → Running n found set' after
  running_more found set set' run some noted = record {
    inside = λ z v h. run.inside z v (after_inside z v h);
    named = named;
    full = λ h. full_from n after (λ z l. ⊎_elim (λ (e : z ≡ x). let s = ap (λ i. size_of (after i)) e in let ne = eqb-false (size_of (after x)) 0 left in omega (arith, ne)) (λ ne. let s = ap (λ (u : Table). size_of (u z)) is ∙ ap size_of (kept_same x row t z ne) in let p = full_at n t (run.full h) z l in omega arith) (cases_eq z x));
  }
    where
      left : eqb (size_of (after x)) 0 ≡ false
      left = not-true (eqb (size_of (after x)) 0) some

      here : (z : ℕ) → ltb (size_of (after z)) (size_of (t z)) ≡ (eqb z x && ltb (size_of (after x)) (size_of (t x)))
      here z = subst (λ (u : Table). ltb (size_of (u z)) (size_of (t z)) ≡ (eqb z x && ltb (size_of (u x)) (size_of (t x)))) (sym is) (smaller_at x row t z)

      named : (z : ℕ) → in_set set' z ≡ ltb (size_of (after z)) (size_of (found z))
      named z =
          noted z
          ∙ ap₂ (λ (a b : Bool). a || (ltb (size_of (after x)) (size_of (t x)) && (eqb z x && b))) (run.named z) (lt-ltb x 256 (let l = low left in omega arith))
          ∙ ap (λ (b : Bool). ltb (size_of (t z)) (size_of (found z)) || b) (swap (ltb (size_of (after x)) (size_of (t x))) (eqb z x) ∙ sym (here z))
          ∙ sym (less_chain (size_of (found z)) (size_of (t z)) (size_of (after z)) (size_mono (after z) (t z) (after_inside z)) (size_mono (t z) (found z) (run.inside z)))

-- ---- how a run of a rule that fits ends

pub run_by : (n : ℕ) (r : Rule) (t : Table) (a : Ran) (after : Table) → r.fit n ≡ Ok tt → Inside after t → Named a t after → (is_void n t ≡ false → Exact n (r.filter t) after a) → Run n r t a after
run_by n r t a after fits i named exact = record {
  inside = i;
  named = named;
  exact = λ full. subst (λ (b : Bool). Exact n (cond b (r.filter t) t) after a) (sym (ap is_ok fits)) (exact full);
  void = void_inside n after t i;
}

-- a run that failed answers so
failed : (P : Ran → Type 0) → ((e : Failed) → P (Err e)) → (a : Ran) → IsErr a → P a
failed P f (Err e) is = f e
failed P f (Ok s) is = absurd (both_ways false refl is)

-- a domain that it needs is empty, and it stops at once
pub run_void : (n : ℕ) (r : Rule) (t : Table) (x : ℕ) → r.fit n ≡ Ok tt → x < n → size_of (t x) ≡ 0 → (a : Ran) → IsErr a → Run n r t a t
run_void n r t x fits l z = failed (λ a. Run n r t a t) (λ e. run_by n r t (Err e) t fits (λ y v h. h) tt (λ full. absurd (both_ways (is_void n t) full (void_at n t x l z))))

-- it emptied a domain; what the filter leaves lies inside what was left then
pub run_failed : (n : ℕ) (r : Rule) (t after : Table) (x : ℕ) → r.fit n ≡ Ok tt → Inside after t → Inside (r.filter t) after → x < n → not (eqb (size_of (after x)) 0) ≡ false → (a : Ran) → IsErr a → Run n r t a after
run_failed n r t after x fits i j l none = failed (λ a. Run n r t a after) (λ e. run_by n r t (Err e) after fits i tt (λ full. void_inside n (r.filter t) after j (void_at n after x l (eqb-true (size_of (after x)) 0 (not-false (eqb (size_of (after x)) 0) none)))))

-- it came to its end
pub run_done : (n : ℕ) (r : Rule) (t after : Table) (set : List ℕ) → r.fit n ≡ Ok tt → Running n t set after → after ≡ r.filter t → Run n r t (Ok set) after
run_done n r t after set fits run e = run_by n r t (Ok set) after fits run.inside run.named (λ full. (subst (λ u. is_void n u ≡ false) e (run.full full), e))
