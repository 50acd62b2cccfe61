-- The laws of offsets, which ghost members name.
use Rattle.std.specs.Prelude.{◌≡◌, ℕ, ◌<◌, Bool, true, false, cond, not, ◌&&◌, ◌||◌, List, map, ℤ, ◌+ℤ◌, ◌-ℤ◌, is_ok, Ok, Err, Result, ◌==◌, nat_lt, refl}
use Rattle.std.proofs.Common.{sym, ap, ap₂, subst, ◌∙◌, inl, inr, ⊎_elim, arith}
use Rattle.std.proofs.Math.Path.{fun_ext}
use Rattle.std.proofs.lemmas.Int.{ints}
use Rattle.std.proofs.lemmas.Bool.{both_ways, ltb-true, eqb-true, eq-eqb, and_parts, and_from, or_parts, or_left, or_right}
use Rattle.tables.specs.Tables.{Domain, Table, Inside}
use Rattle.tables.proofs.Truths.{asked, answered}
use Rattle.tables.proofs.Places.{equal_true, equal_same}
use Rattle.rules.specs.declared.fault.RuleFault.{RuleFault}
use Rattle.rules.specs.declared.fault.RuleFault.TheVariants.{Variable, Value}
use Rattle.rules.specs.Rules.{Lawful, at}
use Rattle.rules.specs.Banks.{Lawfully}
use Rattle.rules.proofs.Voids.{void_inside, within_inside, in_full, size_one}
use Rattle.filters.specs.Facts.{listed_lawful}
use Rattle.offsets.specs.declared.rule.Offset.{Offset}
use Rattle.offsets.specs.Offsets.{shifted, in_reach, offset}

-- ---- the tests of a filter, over plain answers

-- a test that is asked of neither of two variables
unasked : (a p q : Bool) (s t : Bool) → p ≡ false → q ≡ false → (a && ((not p || s) && (not q || t))) ≡ a
unasked true p q s t e f = ap₂ (λ (p q : Bool). (not p || s) && (not q || t)) e f
unasked false p q s t e f = refl

-- ---- what is left of a table

pub shifted_here : (x y : ℕ) (c : ℤ) (t : Table) (z : ℕ) (v : ℤ) → shifted x y c t z v ≡ true → t z v ≡ true
shifted_here x y c t z v h = (and_parts (t z v) _ h).0

pub shifted_x : (x y : ℕ) (c : ℤ) (t : Table) (v : ℤ) → shifted x y c t x v ≡ true → t y (v -ℤ c) ≡ true
shifted_x x y c t v h = asked (x == x) (t y (v -ℤ c)) (and_parts (not (x == x) || t y (v -ℤ c)) _ (and_parts (t x v) _ h).1).0 (eq-eqb x x refl)

pub shifted_from : (x y : ℕ) (c : ℤ) (t : Table) (z : ℕ) (v : ℤ) → t z v ≡ true → (z ≡ x → t y (v -ℤ c) ≡ true) → (z ≡ y → t x (v +ℤ c) ≡ true) → shifted x y c t z v ≡ true
shifted_from x y c t z v h f g =
    and_from (t z v) _ h (and_from (not (z == x) || t y (v -ℤ c)) (not (z == y) || t x (v +ℤ c)) (answered (z == x) _ (λ e. f (eqb-true z x e))) (answered (z == y) _ (λ e. g (eqb-true z y e))))

pub shifted_mono : (x y : ℕ) (c : ℤ) (d e : Table) → Inside d e → Inside (shifted x y c d) (shifted x y c e)
shifted_mono x y c d e i z v h =
    let both = and_parts (not (z == x) || d y (v -ℤ c)) (not (z == y) || d x (v +ℤ c)) (and_parts (d z v) _ h).1 in
    shifted_from x y c e z v (i z v (shifted_here x y c d z v h))
    (λ q. i y (v -ℤ c) (asked (z == x) _ both.0 (eq-eqb z x q)))
    (λ q. i x (v +ℤ c) (asked (z == y) _ both.1 (eq-eqb z y q)))

-- ---- numbers

minus_plus : (a b c : ℤ) → a ≡ b +ℤ c → a -ℤ c ≡ b
minus_plus a b c e = omega (arith, ints)

plus_minus : (a b c : ℤ) → a -ℤ c ≡ b → a ≡ b +ℤ c
plus_minus a b c e = omega (arith, ints)

-- ---- a rule that fits

fit_parts : (p q : Bool) → ◌≡◌ {A = Result (Unit {0}) RuleFault} (cond p (cond q (Ok tt) (Err Value)) (Err Variable)) (Ok tt) → (p ≡ true) × (q ≡ true)
fit_parts true true e = (refl, refl)
fit_parts true false e = absurd (both_ways false refl (ap is_ok e))
fit_parts false q e = absurd (both_ways false refl (ap is_ok e))

-- both variables are there, and the constant is in reach
pub fit_means : (o : Offset) (n : ℕ) → (offset o).fit n ≡ Ok tt → (o.x < n) × (o.y < n) × (in_reach o.c ≡ true)
fit_means o n e =
    let parts = fit_parts (nat_lt o.x n && nat_lt o.y n) (in_reach o.c) e in
    let low = and_parts (nat_lt o.x n) (nat_lt o.y n) parts.0 in
    (ltb-true o.x n low.0, ltb-true o.y n low.1, parts.1)

-- a rule whose variables are there keeps the laws
pub offset_lawful : (o : Offset) (n : ℕ) → o.x < n → o.y < n → Lawful n (offset o)
offset_lawful o n lx ly = record {
  shrinks = λ d s. inr (inside d);
  monotone = λ d e s u w. ⊎_elim (λ void. inl (void_inside n (shifted o.x o.y o.c d) d (inside d) void)) (λ i. inr (shifted_mono o.x o.y o.c d e i)) w;
  sound = λ d s a h obeys. let e = equal_true (at a o.x) (at a o.y +ℤ o.c) obeys in (
    h.0,
    λ z l. shifted_from o.x o.y o.c d z (at a z) (h.1 z l)
        (λ q. subst (λ v. d o.y v ≡ true) (sym (minus_plus (at a z) (at a o.y) o.c (ap (at a) q ∙ e))) (h.1 o.y ly))
        (λ q. subst (λ v. d o.x v ≡ true) (e ∙ ap (λ i. at a i +ℤ o.c) (sym q)) (h.1 o.x lx)),
  );
  decides = λ d s single same a h.
      let i = within_inside n d (shifted o.x o.y o.c d) same.1 (in_full n d a s h) in
      let there = shifted_x o.x o.y o.c d (at a o.x) (i o.x (at a o.x) (h.1 o.x lx)) in
      let here = h.1 o.y ly in
      equal_same (at a o.x) (at a o.y +ℤ o.c) (plus_minus (at a o.x) (at a o.y) o.c (size_one (d o.y) (single o.y ly) (at a o.x -ℤ o.c) (at a o.y) (s o.y _ there).1 (s o.y _ here).1 there here));
  outside = λ d s z h. let no = or_parts (z == o.x) (z == o.y) h in fun_ext (λ v. unasked (d z v) (z == o.x) (z == o.y) _ _ no.0 no.1);
  local = λ d e s u f g agree. inr (λ z h. local d e z (agree z h) (agree o.x (or_left _ _ (eq-eqb o.x o.x refl))) (agree o.y (or_right (o.y == o.x) _ (eq-eqb o.y o.y refl))));
}
  where
    inside : (d : Table) → Inside (shifted o.x o.y o.c d) d
    inside d z v h = shifted_here o.x o.y o.c d z v h

    local : (d e : Table) (z : ℕ) → d z ≡ e z → d o.x ≡ e o.x → d o.y ≡ e o.y → shifted o.x o.y o.c d z ≡ shifted o.x o.y o.c e z
    local d e z p q r = fun_ext (λ v. let a = ap (λ (f : Domain). f v) p in let b = ap (λ (f : Domain). f (v +ℤ o.c)) q in let c = ap (λ (f : Domain). f (v -ℤ o.c)) r in cc)

-- so does one that fits
pub fits_lawful : (o : Offset) (n : ℕ) → (offset o).fit n ≡ Ok tt → Lawful n (offset o)
fits_lawful o n e = let m = fit_means o n e in offset_lawful o n m.0 m.1

-- each rule of a list that fits keeps the laws
pub offsets_lawful : (os : List Offset) → Lawfully (map offset os)
offsets_lawful = listed_lawful offset fits_lawful
