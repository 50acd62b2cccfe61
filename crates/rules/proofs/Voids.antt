-- Sizes of domains, void tables, and tables inside one another.
use Rattle.std.proofs.Common.{◌≡◌, ℕ, zero, suc, ◌<◌, ◌≤◌, Bool, true, false, not, ◌&&◌, eqb, ℤ, sym, refl, subst, ⊎_elim, arith}
use Rattle.std.proofs.lemmas.Bool.{both_ways, cases_lt, cases_Bool, cases_eq, eqb-true, eq-eqb, and_parts, or_cases, or_left, or_right}
use Rattle.tables.specs.Values.{is_value, value_at, equal_int}
use Rattle.tables.specs.Tables.{Domain, Table, size_of, Shaped, is_void, Inside, Within}
use Rattle.tables.proofs.Counts.{count_mono, size_less, size_some}
use Rattle.tables.proofs.Places.{equal_true, equal_same}
use Rattle.rules.specs.Rules.{Assignment, at, In}

pub size_mono : (d e : Domain) → ((v : ℤ) → d v ≡ true → e v ≡ true) → size_of d ≤ size_of e
unfolding size_of
size_mono d e f = count_mono (λ p. d (value_at p)) (λ p. e (value_at p)) 1024 (λ k h. f (value_at k))

and_not : (a b : Bool) → a ≡ true → b ≡ false → (a && not b) ≡ true
and_not true false p q = refl
and_not true true p q = sym q
and_not false b p q = p

and_self : (a b : Bool) → b ≡ true → (a && not b) ≡ false
and_self true true e = refl
and_self false b e = refl
and_self true false e = sym e

-- a domain with one value has no two
pub size_one : (d : Domain) → size_of d ≡ 1 → (u v : ℤ) → is_value u ≡ true → is_value v ≡ true → d u ≡ true → d v ≡ true → u ≡ v
size_one d e u v hu hv du dv =
    ⊎_elim
    (λ yes. sym (equal_true v u yes))
    (λ no.
    let less = size_less (λ w. d w && not (equal_int w u)) d (λ w h. (and_parts (d w) _ h).0) u hu du (and_self (d u) (equal_int u u) (equal_same u u refl)) in
    let more = size_some (λ w. d w && not (equal_int w u)) v hv (and_not (d v) (equal_int v u) dv no) in
    absurd (omega arith))
    (cases_Bool (equal_int v u))

-- ---- void tables

pub void_at : (n : ℕ) (t : Table) (x : ℕ) → x < n → size_of (t x) ≡ 0 → is_void n t ≡ true
void_at zero t x h e = absurd (omega arith)
void_at (suc n) t x h e =
    ⊎_elim
    (λ low. or_right (eqb (size_of (t n)) 0) _ (void_at n t x low e))
    (λ high. let q : x ≡ n = omega arith in or_left (eqb (size_of (t n)) 0) _ (eq-eqb _ 0 (subst (λ m. size_of (t m) ≡ 0) q e)))
    (cases_lt x n)

-- a void table has an empty domain
pub void_some : (n : ℕ) (t : Table) → is_void n t ≡ true → (x : ℕ) × (x < n) × (size_of (t x) ≡ 0)
void_some zero t e = absurd (both_ways false refl e)
void_some (suc n) t e =
    ⊎_elim
    (λ here. (n, omega arith, eqb-true _ 0 here))
    (λ below. let s = void_some n t below in (s.0, (let l = s.1 in omega arith), s.2))
    (or_cases (eqb (size_of (t n)) 0) (is_void n t) e)

pub full_at : (n : ℕ) (t : Table) → is_void n t ≡ false → (x : ℕ) → x < n → 0 < size_of (t x)
full_at n t e x h = ⊎_elim (λ (z : size_of (t x) ≡ 0). absurd (both_ways (is_void n t) e (void_at n t x h z))) (λ nz. omega arith) (cases_eq (size_of (t x)) 0)

pub full_from : (n : ℕ) (t : Table) → ((x : ℕ) → x < n → 0 < size_of (t x)) → is_void n t ≡ false
full_from n t f = ⊎_elim (λ yes. let s = void_some n t yes in let l = f s.0 s.1 in let z = s.2 in absurd (omega arith)) (λ no. no) (cases_Bool (is_void n t))

-- what lies inside a void table is void
pub void_inside : (n : ℕ) (d e : Table) → Inside d e → is_void n e ≡ true → is_void n d ≡ true
void_inside n d e i h = let s = void_some n e h in let l = size_mono (d s.0) (e s.0) (i s.0) in let z = s.2 in void_at n d s.0 s.1 (omega arith)

pub full_outside : (n : ℕ) (d e : Table) → Inside d e → is_void n d ≡ false → is_void n e ≡ false
full_outside n d e i h = ⊎_elim (λ yes. absurd (both_ways (is_void n d) h (void_inside n d e i yes))) (λ no. no) (cases_Bool (is_void n e))

-- a table that is not void lies inside in the plain sense
pub within_inside : (n : ℕ) (d e : Table) → Within n d e → is_void n d ≡ false → Inside d e
within_inside n d e w h = ⊎_elim (λ void. absurd (both_ways (is_void n d) h void)) (λ i. i) w

-- and is within no void table
pub within_full : (n : ℕ) (d e : Table) → Within n d e → is_void n d ≡ false → is_void n e ≡ false
within_full n d e w h = full_outside n d e (within_inside n d e w h) h

pub inside_shaped : (n : ℕ) (d e : Table) → Inside d e → Shaped n e → Shaped n d
inside_shaped n d e i s x v h = s x v (i x v h)

-- a table with an assignment in it is not void
pub in_full : (n : ℕ) (t : Table) (a : Assignment) → Shaped n t → In n t a → is_void n t ≡ false
in_full n t a s h = full_from n t (λ x l. size_some (t x) (at a x) (s x (at a x) (h.1 x l)).1 (h.1 x l))
