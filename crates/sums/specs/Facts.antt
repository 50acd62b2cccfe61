-- The laws of sums, which ghost members name.
use Rattle.std.specs.Prelude.{◌≡◌, ℕ, ◌≤◌, Bool, true, false, cond, not, ◌&&◌, ◌||◌, List, [], ◌∷◌, length, ℤ, pos, ◌+ℤ◌, ◌-ℤ◌, neg_ℤ, ◌≤ℤ◌, is_ok, Ok, Err, Result, ◌==◌, int_le, nat_le, refl}
use Rattle.std.proofs.Math.Bool.{and-true}
use Rattle.std.proofs.Common.{sym, ap, ap₂, subst, ◌∙◌, inl, inr, ⊎_elim, arith}
use Rattle.std.proofs.Math.Path.{fun_ext}
use Rattle.std.proofs.lemmas.Int.{ints}
use Rattle.std.proofs.lemmas.Bool.{both_ways, cases_Bool, leb-true, eqb-true, eq-eqb, and_parts, and_from, or_parts, or_left, or_right}
use Rattle.tables.specs.Values.{equal_int}
use Rattle.tables.specs.Tables.{Domain, Table, Shaped, is_void, Inside, Within}
use Rattle.tables.proofs.Places.{equal_true, equal_same}
use Rattle.tables.proofs.Truths.{le_true, true_le, asked, answered, unasked}
use Rattle.rules.specs.declared.fault.RuleFault.{RuleFault}
use Rattle.rules.specs.declared.fault.RuleFault.TheVariants.{Variable, Value, Length}
use Rattle.rules.specs.Rules.{Assignment, at, In, Single, Lawful}
use Rattle.rules.specs.Banks.{Lawfully}
use Rattle.rules.proofs.Voids.{void_inside, within_inside, in_full}
use Rattle.filters.specs.Facts.{listed_lawful}
use Rattle.sums.specs.declared.rule.Sign.{Sign}
use Rattle.sums.specs.declared.rule.Sum.{Sum}
use Rattle.sums.specs.declared.rule.Term.{Term}
use Rattle.sums.specs.Sums.{signed, lowest, highest, lo, hi, total, Window, windows, passes, balanced, on_any, are_below, in_reach, worth, balance, sum, rules_of}
use Rattle.sums.specs.Bounds.{added, head_below, tail_below, lo_mono, hi_mono, los_mono, his_mono, lo_le, hi_ge, los_le, his_ge, los_one, his_one}

-- ---- windows

-- a number in a window lies in a wider one
lies_wider : (s : Sign) (f u f' u' v : ℤ) → f' ≤ℤ f → u ≤ℤ u' → (int_le f (signed s v) && int_le (signed s v) u) ≡ true → (int_le f' (signed s v) && int_le (signed s v) u') ≡ true
lies_wider s f u f' u' v a b h =
    let p = and_parts (int_le f (signed s v)) (int_le (signed s v) u) h in
    let l = le_true f (signed s v) p.0 in
    let r = le_true (signed s v) u p.1 in
    and_from (int_le f' (signed s v)) (int_le (signed s v) u') (true_le f' (signed s v) (omega (arith, ints))) (true_le (signed s v) u' (omega (arith, ints)))

wider_from : (c a b a' b' : ℤ) → a ≤ℤ a' → b ≤ℤ b' → (neg_ℤ c -ℤ (a' +ℤ b')) ≤ℤ (neg_ℤ c -ℤ (a +ℤ b))
wider_from c a b a' b' p q = omega (arith, ints)

-- of a smaller table the windows are narrower
module _ (n : ℕ) (c : ℤ) (d e : Table) (shaped : Shaped n d) (full : is_void n d ≡ false) (inside : Inside d e) where
  passes_mono : (ms : List Term) (l l' h h' : ℤ) → l' ≤ℤ l → h ≤ℤ h' → are_below n ms ≡ true → (z : ℕ) (v : ℤ) → passes (windows c d l h ms) z v ≡ true → passes (windows c e l' h' ms) z v ≡ true
  passes_mono [] l l' h h' p q below z v t = refl
  passes_mono (m ∷ ms) l l' h h' p q below z v t =
      let both = and_parts (not (z == m.x) || _) (passes (windows c d (l +ℤ lo d m) (h +ℤ hi d m) ms) z v) t in
      let low = head_below n m ms below in
      let rest = tail_below n m ms below in
      and_from _ _
      (answered (z == m.x) _ (λ i. lies_wider m.sign _ _ _ _ v
      (wider_from c h (total (hi d) ms) h' (total (hi e) ms) q (his_mono n d e shaped full inside ms rest))
      (wider_from c l' (total (lo e) ms) l (total (lo d) ms) p (los_mono n d e shaped full inside ms rest))
      (asked (z == m.x) _ both.0 i)))
      (passes_mono ms _ _ _ _ (added _ _ _ _ p (lo_mono n d e shaped full inside m low)) (added _ _ _ _ q (hi_mono n d e shaped full inside m low)) rest z v both.1)

-- the worth of a term and of the others is -c
in_window : (c w s rest his hs los ls : ℤ) → ((s +ℤ (w +ℤ rest)) +ℤ c) ≡ pos 0 → s ≤ℤ his → rest ≤ℤ hs → los ≤ℤ s → ls ≤ℤ rest → ((neg_ℤ c -ℤ (his +ℤ hs)) ≤ℤ w) × (w ≤ℤ (neg_ℤ c -ℤ (los +ℤ ls)))
in_window c w s rest his hs los ls e a b d f = (omega (arith, ints), omega (arith, ints))

regroup : (s w rest c : ℤ) → ((s +ℤ (w +ℤ rest)) +ℤ c) ≡ pos 0 → (((s +ℤ w) +ℤ rest) +ℤ c) ≡ pos 0
regroup s w rest c e = omega (arith, ints)

-- an assignment that obeys passes the windows
module _ (n : ℕ) (c : ℤ) (t : Table) (shaped : Shaped n t) (a : Assignment) (inside : In n t a) where
  passes_sound : (ms : List Term) (l s h : ℤ) → l ≤ℤ s → s ≤ℤ h → are_below n ms ≡ true → ((s +ℤ total (worth a) ms) +ℤ c) ≡ pos 0 → (z : ℕ) → passes (windows c t l h ms) z (at a z) ≡ true
  passes_sound [] l s h p q below e z = refl
  passes_sound (m ∷ ms) l s h p q below e z =
      let low = head_below n m ms below in
      let rest = tail_below n m ms below in
      let w = in_window c (worth a m) s (total (worth a) ms) h (total (hi t) ms) l (total (lo t) ms) e q (his_ge n t shaped a inside ms rest) p (los_le n t shaped a inside ms rest) in
      and_from _ _
      (answered (z == m.x) _ (λ i.
      subst (λ y. (int_le (neg_ℤ c -ℤ (h +ℤ total (hi t) ms)) (signed m.sign (at a y)) && int_le (signed m.sign (at a y)) (neg_ℤ c -ℤ (l +ℤ total (lo t) ms))) ≡ true) (sym (eqb-true z m.x i))
      (and_from _ _ (true_le _ (worth a m) w.0) (true_le (worth a m) _ w.1))))
      (passes_sound ms _ (s +ℤ worth a m) _ (added _ _ _ _ p (lo_le n t shaped a inside m low)) (added _ _ _ _ q (hi_ge n t shaped a inside m low)) rest (regroup s (worth a m) (total (worth a) ms) c e) z)

-- a table with no other assignment: the first window is one number
balanced_out : (c w rest hs ls : ℤ) → hs ≡ rest → ls ≡ rest → (neg_ℤ c -ℤ (pos 0 +ℤ hs)) ≤ℤ w → w ≤ℤ (neg_ℤ c -ℤ (pos 0 +ℤ ls)) → ((w +ℤ rest) +ℤ c) ≡ pos 0
balanced_out c w rest hs ls p q a b = omega (arith, ints)

-- what two tables that agree on the terms' variables have in common
totals_same : (f : Sign → Domain → ℤ) (d e : Table) (ms : List Term) → ((z : ℕ) → on_any ms z ≡ true → d z ≡ e z) → total (λ m. f m.sign (d m.x)) ms ≡ total (λ m. f m.sign (e m.x)) ms
totals_same f d e [] agree = refl
totals_same f d e (m ∷ ms) agree = ap₂ ◌+ℤ◌ (ap (f m.sign) (agree m.x (or_left _ _ (eq-eqb m.x m.x refl)))) (totals_same f d e ms (λ z h. agree z (or_right (z == m.x) _ h)))

windows_same : (c : ℤ) (d e : Table) (ms : List Term) (l h l' h' : ℤ) → l ≡ l' → h ≡ h' → ((z : ℕ) → on_any ms z ≡ true → d z ≡ e z) → windows c d l h ms ≡ windows c e l' h' ms
windows_same c d e [] l h l' h' p q agree = refl
windows_same c d e (m ∷ ms) l h l' h' p q agree =
    let here = agree m.x (or_left _ _ (eq-eqb m.x m.x refl)) in
    let rest = λ (z : ℕ) (i : on_any ms z ≡ true). agree z (or_right (z == m.x) _ i) in
    ap₂ ◌∷◌
    (ap₂ (λ (u v : ℤ). record { x = m.x; sign = m.sign; from = neg_ℤ c -ℤ u; upto = neg_ℤ c -ℤ v }) (ap₂ ◌+ℤ◌ q (totals_same highest d e ms rest)) (ap₂ ◌+ℤ◌ p (totals_same lowest d e ms rest)))
    (windows_same c d e ms _ _ _ _ (ap₂ ◌+ℤ◌ p (ap (lowest m.sign) here)) (ap₂ ◌+ℤ◌ q (ap (highest m.sign) here)) rest)

-- no window is on a variable that no term is on
passes_outside : (c : ℤ) (t : Table) (ms : List Term) (l h : ℤ) (z : ℕ) (v : ℤ) → on_any ms z ≡ false → passes (windows c t l h ms) z v ≡ true
passes_outside c t [] l h z v e = refl
passes_outside c t (m ∷ ms) l h z v e = let no-term = or_parts (z == m.x) (on_any ms z) e in and_from _ _ (unasked (z == m.x) _ no-term.0) (passes_outside c t ms _ _ z v no-term.1)

-- ---- a rule that fits

fit_parts : (p q r : Bool) → ◌≡◌ {A = Result (Unit {0}) RuleFault} (cond p (cond q (cond r (Ok tt) (Err Length)) (Err Value)) (Err Variable)) (Ok tt) → (p ≡ true) × (q ≡ true) × (r ≡ true)
fit_parts true true true e = (refl, refl, refl)
fit_parts true true false e = absurd (both_ways false refl (ap is_ok e))
fit_parts true false r e = absurd (both_ways false refl (ap is_ok e))
fit_parts false q r e = absurd (both_ways false refl (ap is_ok e))

-- all variables are there, the constant is in reach, and there are 1 to 32 terms
pub fit_means : (c : ℤ) (ms : List Term) (n : ℕ) → (balance c ms).fit n ≡ Ok tt → (are_below n ms ≡ true) × (in_reach c ≡ true) × (1 ≤ length ms) × (length ms ≤ 32)
fit_means c ms n e =
    let parts = fit_parts (are_below n ms) (in_reach c) (nat_le 1 (length ms) && nat_le (length ms) 32) e in
    let size = and_parts (nat_le 1 (length ms)) (nat_le (length ms) 32) parts.2 in
    (parts.0, parts.1, leb-true 1 (length ms) size.0, leb-true (length ms) 32 size.1)

zero_plus : (v c : ℤ) → (v +ℤ c) ≡ pos 0 → ((pos 0 +ℤ v) +ℤ c) ≡ pos 0
zero_plus v c e = omega (arith, ints)

module _ (n : ℕ) (c : ℤ) where
  decided : (ms : List Term) → 1 ≤ length ms → are_below n ms ≡ true → (d : Table) → Shaped n d → Single n d → (a : Assignment) → In n d a → Inside d (balanced c ms d) → equal_int (total (worth a) ms +ℤ c) (pos 0) ≡ true
  decided [] some below d s single a h i = absurd (omega arith)
  decided (m ∷ ms) some below d s single a h i =
      let low = head_below n m ms below in
      let rest = tail_below n m ms below in
      let stays = (and_parts (d m.x (at a m.x)) _ (i m.x (at a m.x) (h.1 m.x low))).1 in
      let window = asked (m.x == m.x) _ (and_parts (not (m.x == m.x) || _) (passes (windows c d _ _ ms) m.x (at a m.x)) stays).0 (eq-eqb m.x m.x refl) in
      let both = and_parts (int_le _ (worth a m)) (int_le (worth a m) _) window in
      equal_same _ (pos 0) (balanced_out c (worth a m) (total (worth a) ms) (total (hi d) ms) (total (lo d) ms) (his_one n d s a h single ms rest) (los_one n d s a h single ms rest) (le_true _ (worth a m) both.0) (le_true (worth a m) _ both.1))

  pub balance_lawful : (ms : List Term) → 1 ≤ length ms → are_below n ms ≡ true → Lawful n (balance c ms)
  balance_lawful ms some below = record {
    shrinks = λ d s. inr (inside d);
    monotone = λ d e s u w. ⊎_elim (λ void. inl (void_inside n (balanced c ms d) d (inside d) void)) (λ i. mono d e s i) w;
    sound = λ d s a h obeys. (
      h.0,
      λ z l. and_from (d z (at a z)) _ (h.1 z l) (passes_sound n c d s a h ms (pos 0) (pos 0) (pos 0) (omega (arith, ints)) (omega (arith, ints)) below (zero_plus (total (worth a) ms) c (equal_true (total (worth a) ms +ℤ c) (pos 0) obeys)) z),
    );
    decides = λ d s single same a h. decided ms some below d s single a h (within_inside n d (balanced c ms d) same.1 (in_full n d a s h));
    outside = λ d s z h. fun_ext (λ v. ap (λ (b : Bool). d z v && b) (passes_outside c d ms (pos 0) (pos 0) z v h) ∙ and-true (d z v));
    local = λ d e s u f g agree. inr (λ z h. let ws = windows_same c d e ms (pos 0) (pos 0) (pos 0) (pos 0) refl refl agree in ap₂ (λ (p : Domain) (w : List Window). λ (v : ℤ). p v && passes w z v) (agree z h) ws);
  }
    where
      inside : (d : Table) → Inside (balanced c ms d) d
      inside d z v h = (and_parts (d z v) _ h).0

      mono : (d e : Table) → Shaped n d → Inside d e → Within n (balanced c ms d) (balanced c ms e)
      mono d e s i =
          ⊎_elim
          (λ void. inl (void_inside n (balanced c ms d) d (inside d) void))
          (λ full. inr (λ z v h.
          let both = and_parts (d z v) _ h in
          and_from (e z v) _ (i z v both.0) (passes_mono n c d e s full i ms (pos 0) (pos 0) (pos 0) (pos 0) (omega (arith, ints)) (omega (arith, ints)) below z v both.1)))
          (cases_Bool (is_void n d))

pub sum_lawful : (s : Sum) (n : ℕ) → (sum s).fit n ≡ Ok tt → Lawful n (sum s)
sum_lawful s n e = let m = fit_means s.c s.terms.now n e in balance_lawful n s.c s.terms.now m.2 m.0

-- each rule of a list that fits keeps the laws
pub sums_lawful : (ss : List Sum) → Lawfully (rules_of ss)
sums_lawful = listed_lawful sum sum_lawful
