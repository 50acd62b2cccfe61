-- What the laws of a rule say of a table that it leaves, and of a smaller one.
use Rattle.std.proofs.Common.{◌≡◌, ℕ, ◌≤◌, true, false, List, ℤ, sym, ◌∙◌, subst, inr, ⊎_elim, arith}
use mathlib.Core.Path.{fun_ext}
use Rattle.std.proofs.lemmas.Bool.{both_ways, cases_lt, cases_Bool, ltb-false}
use Rattle.tables.specs.Values.{is_value}
use Rattle.tables.specs.Tables.{Domain, Table, size_of, Shaped, is_void, Inside}
use Rattle.tables.proofs.Counts.{size_less}
use Rattle.tables.proofs.Keeps.{nothing_outside}
use Rattle.tables.proofs.Truths.{either}
use Rattle.rules.specs.Rules.{Rule, Lawful, Same, Agree}
use Rattle.rules.specs.Banks.{called, woken}
use Rattle.rules.proofs.Numbers.{woken_one}
use Rattle.rules.proofs.Voids.{full_outside, within_inside, within_full, inside_shaped}
use Rattle.sessions.specs.Steps.{smaller}

-- ---- domains that did not get smaller

-- a domain inside another one that is not smaller is the same
pub same_size : (d e : Domain) → ((v : ℤ) → d v ≡ true → e v ≡ true) → ((v : ℤ) → e v ≡ true → is_value v ≡ true) → size_of e ≤ size_of d → (v : ℤ) → e v ≡ true → d v ≡ true
same_size d e f g l v h = ⊎_elim (λ yes. yes) (λ no. let less = size_less d e f v (g v h) h no in absurd (omega arith)) (cases_Bool (d v))

pub not_smaller : (n : ℕ) (u t : Table) → Shaped n t → Inside u t → (x : ℕ) → smaller t u x ≡ false → u x ≡ t x
not_smaller n u t s i x h =
    fun_ext (λ v. either (u x v) (t x v) (i x v) (same_size (u x) (t x) (i x) (λ v q. (s x v q).1) (ltb-false _ _ h) v))

-- a rule that is not woken sees the same watched domains
pub unwoken_agree : (n : ℕ) (rules : List Rule) (u t : Table) → n ≤ 256 → Shaped n t → Inside u t → (j : ℕ) → woken rules (smaller t u) j ≡ false → Agree (called rules j) t u
unwoken_agree n rules u t few s i j h x watched =
    ⊎_elim
    (λ low. sym (not_smaller n u t s i x
    (⊎_elim (λ yes. absurd (both_ways (woken rules (smaller t u) j) h (woken_one rules (smaller t u) j x low yes watched))) (λ no. no) (cases_Bool (smaller t u x)))))
    (λ high. fun_ext (λ v.
    nothing_outside n t s x (omega arith) v ∙ sym (nothing_outside n u (inside_shaped n u t i s) x (omega arith) v)))
    (cases_lt x 256)

-- ---- a lawful rule

module _ (n : ℕ) (r : Rule) (law : Lawful n r) where
  -- a table that a rule does not shrink stays inside a larger one's filtered table
  pub unshrunk_inside : (u t : Table) → Shaped n u → Shaped n t → is_void n u ≡ false → Same n (r.filter u) u → Inside u t → (is_void n (r.filter t) ≡ false) × Inside u (r.filter t)
  unshrunk_inside u t su st full same i =
      let fu = within_full n u (r.filter u) same.1 full in
      let w = law.monotone u t su st (inr i) in
      let a = within_inside n u (r.filter u) same.1 full in
      let b = within_inside n (r.filter u) (r.filter t) w fu in
      (within_full n (r.filter u) (r.filter t) w fu, λ x v h. b x v (a x v h))

  -- what is left, where it is not void, lies inside
  pub left_inside : (t : Table) → Shaped n t → is_void n (r.filter t) ≡ false → Inside (r.filter t) t
  left_inside t s full = within_inside n (r.filter t) t (law.shrinks t s) full

  -- a rule whose watched domains are as in a table that it filters to a full one filters the smaller one alike
  pub alike : (t u : Table) → Shaped n t → Shaped n u → is_void n t ≡ false → is_void n u ≡ false → is_void n (r.filter t) ≡ false → Agree r t u → Agree r (r.filter t) (r.filter u)
  alike t u st su ft fu full agree = ⊎_elim (λ both. absurd (both_ways (is_void n (r.filter t)) full both.0)) (λ a. a) (law.local t u st su ft fu agree)

  -- a rule that left t as it is leaves u as it is, where u has the same watched domains
  pub still_fixed : (t u : Table) → Shaped n t → Shaped n u → is_void n t ≡ false → is_void n u ≡ false → Inside t (r.filter t) → Agree r t u → Inside u (r.filter u)
  still_fixed t u st su ft fu fixed agree x v h =
      ⊎_elim
      (λ watched.
      let same = alike t u st su ft fu (full_outside n t (r.filter t) fixed ft) agree x watched in
      subst (λ (d : Domain). d v ≡ true) same (fixed x v (subst (λ (d : Domain). d v ≡ true) (sym (agree x watched)) h)))
      (λ free. subst (λ (d : Domain). d v ≡ true) (sym (law.outside u su x free)) h)
      (cases_Bool (r.watches x))

  -- a rule that just ran leaves its table as it is, where no watched domain changed
  pub just_ran : (t u : Table) → Shaped n t → Shaped n u → is_void n t ≡ false → is_void n u ≡ false → u ≡ r.filter t → Agree r t u → Inside u (r.filter u)
  just_ran t u st su ft fu is agree x v h =
      ⊎_elim
      (λ watched.
      let same = alike t u st su ft fu (subst (λ (d : Table). is_void n d ≡ false) is fu) agree x watched in
      subst (λ (d : Domain). d v ≡ true) same (subst (λ (d : Table). d x v ≡ true) is h))
      (λ free. subst (λ (d : Domain). d v ≡ true) (sym (law.outside u su x free)) h)
      (cases_Bool (r.watches x))

  -- nothing is lost: the two tables are the same
  pub fixed_same : (t : Table) → Shaped n t → is_void n t ≡ false → Inside t (r.filter t) → Same n (r.filter t) t
  fixed_same t s full fixed = (law.shrinks t s, inr fixed)
