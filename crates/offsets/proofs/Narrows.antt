-- What two keeps of an offset do to a table.
use Rattle.std.proofs.Common.{◌≡◌, ℕ, ◌≤◌, Bool, true, false, not, ◌&&◌, ◌||◌, eqb, ltb, List, ℤ, ◌+ℤ◌, ◌-ℤ◌, Ok, Err, sym, refl, ap, ◌∙◌, subst, ap₂, ⊎_elim, arith}
use mathlib.Core.Path.{fun_ext}
use Rattle.std.proofs.lemmas.Bool.{cases_eq, eqb-true, eqb-false, lt-ltb}
use Rattle.tables.specs.Rows.{in_row}
use Rattle.tables.specs.Tables.{Table, size_of, is_void, Inside, kept}
use Rattle.rules.specs.declared.ran.Failed.{Failed}
use Rattle.rules.specs.Banks.{in_set, Names, Run}
use Rattle.rules.proofs.Voids.{size_mono, void_at, void_inside, full_at, full_from}
use Rattle.filters.proofs.Runs.{kept_inside, kept_same, smaller_at, less_chain, swap, run_by}
use Rattle.offsets.specs.declared.rule.Offset.{Offset}
use Rattle.offsets.specs.Offsets.{shifted, offset}
use Rattle.offsets.specs.Facts.{fit_means}

-- ---- the two keeps of an offset

both_kept : (a p q r s u v : Bool) → (p ≡ true → r ≡ (a && s)) → (q ≡ true → u ≡ (a && v)) → ((a && (not p || r)) && (not q || u)) ≡ (a && ((not p || s) && (not q || v)))
both_kept false p q r s u v f g = refl
both_kept true true true r s u v f g = ap₂ (λ (i j : Bool). i && j) (f refl) (g refl)
both_kept true true false r s u v f g = ap (λ (i : Bool). i && true) (f refl)
both_kept true false true r s u v f g = g refl
both_kept true false false r s u v f g = refl

named_so : (a b p q low_x low_y : Bool) → low_x ≡ true → low_y ≡ true → ((a && (p && low_x)) || (b && (q && low_y))) ≡ ((p && a) || (q && b))
named_so a b p q low_x low_y e f = ap₂ (λ (i j : Bool). (a && (p && i)) || (b && (q && j))) e f ∙ ap₂ (λ (i j : Bool). i || j) (swap a p) (swap b q)

module _ (o : Offset) (n : ℕ) (fits : (offset o).fit n ≡ Ok tt) (t : Table) (rx ry : List ℕ)
    (at_x : (v : ℤ) → in_row rx v ≡ (t o.x v && t o.y (v -ℤ o.c))) (at_y : (w : ℤ) → in_row ry w ≡ (t o.y w && t o.x (w +ℤ o.c)))
    (once : Table) (once_is : once ≡ kept o.x rx t) where
  once_inside : Inside once t
  once_inside = subst (λ u. Inside u t) (sym once_is) (kept_inside o.x rx t)

  -- both keeps leave what the rule leaves
  twice_is : (twice : Table) → twice ≡ kept o.y ry once → twice ≡ shifted o.x o.y o.c t
  twice_is twice e =
      e ∙ ap (kept o.y ry) once_is
      ∙ fun_ext (λ z. fun_ext (λ v. both_kept (t z v) (eqb z o.x) (eqb z o.y) (in_row rx v) (t o.y (v -ℤ o.c)) (in_row ry v) (t o.x (v +ℤ o.c))
      (λ h. at_x v ∙ ap (λ i. t i v && t o.y (v -ℤ o.c)) (sym (eqb-true z o.x h)))
      (λ h. at_y v ∙ ap (λ i. t i v && t o.x (v +ℤ o.c)) (sym (eqb-true z o.y h)))))

  left_inside : Inside (shifted o.x o.y o.c t) once
  left_inside = subst (λ u. Inside u once) (twice_is (kept o.y ry once) refl) (kept_inside o.y ry once)

  -- x has no value left
  pub run_none_x : eqb (size_of (once o.x)) 0 ≡ true → (f : Failed) → Run n (offset o) t (Err f) once
  run_none_x e f =
      let m = fit_means o n fits in
      let z = eqb-true (size_of (once o.x)) 0 e in
      run_by n (offset o) t (Err f) once fits once_inside tt (λ full. void_inside n (shifted o.x o.y o.c t) once left_inside (void_at n once o.x m.0 z))

  module _ (twice : Table) (twice_kept : twice ≡ kept o.y ry once) where
    twice_inside : Inside twice t
    twice_inside z v h = once_inside z v (kept_inside o.y ry once z v (subst (λ u. u z v ≡ true) twice_kept h))

    -- y has no value left
    pub run_none_y : eqb (size_of (twice o.y)) 0 ≡ true → (f : Failed) → Run n (offset o) t (Err f) twice
    run_none_y e f =
        let m = fit_means o n fits in
        let z = eqb-true (size_of (twice o.y)) 0 e in
        run_by n (offset o) t (Err f) twice fits twice_inside tt (λ full. subst (λ u. is_void n u ≡ true) (twice_is twice twice_kept) (void_at n twice o.y m.1 z))

    full : is_void n t ≡ false → eqb (size_of (once o.x)) 0 ≡ false → eqb (size_of (twice o.y)) 0 ≡ false → is_void n twice ≡ false
    full h a b =
        full_from n twice (λ z l. ⊎_elim
        (λ (e : z ≡ o.y). let ne = eqb-false (size_of (twice o.y)) 0 b in let s = ap (λ i. size_of (twice i)) e in omega arith)
        (λ beside_y.
        let same = ap (λ (u : Table). size_of (u z)) twice_kept ∙ ap size_of (kept_same o.y ry once z beside_y) in
        ⊎_elim
        (λ (e : z ≡ o.x). let ne = eqb-false (size_of (once o.x)) 0 a in let s = ap (λ i. size_of (once i)) e in omega arith)
        (λ beside_x. let more = ap (λ (u : Table). size_of (u z)) once_is ∙ ap size_of (kept_same o.x rx t z beside_x) in let some = full_at n t h z l in omega arith)
        (cases_eq z o.x))
        (cases_eq z o.y))

    names : n ≤ 256 → (set : List ℕ) (a b : Bool) → a ≡ ltb (size_of (once o.x)) (size_of (t o.x)) → b ≡ ltb (size_of (twice o.y)) (size_of (once o.y)) → ((z : ℕ) → in_set set z ≡ ((a && (eqb z o.x && ltb o.x 256)) || (b && (eqb z o.y && ltb o.y 256)))) → Names set t twice
    names few set a b ea eb es z =
        let m = fit_means o n fits in
        let low = m.0 in
        let low_y = m.1 in
        es z
        ∙ named_so a b (eqb z o.x) (eqb z o.y) _ _ (lt-ltb o.x 256 (omega arith)) (lt-ltb o.y 256 (omega arith))
        ∙ ap₂ (λ (i j : Bool). i || j) (ap (λ (i : Bool). eqb z o.x && i) ea ∙ sym first) (ap (λ (i : Bool). eqb z o.y && i) eb ∙ sym second)
        ∙ sym (less_chain (size_of (t z)) (size_of (once z)) (size_of (twice z)) (size_mono (twice z) (once z) (λ v h. kept_inside o.y ry once z v (subst (λ u. u z v ≡ true) twice_kept h))) (size_mono (once z) (t z) (once_inside z)))
      where
        first : ltb (size_of (once z)) (size_of (t z)) ≡ (eqb z o.x && ltb (size_of (once o.x)) (size_of (t o.x)))
        first = subst (λ (u : Table). ltb (size_of (u z)) (size_of (t z)) ≡ (eqb z o.x && ltb (size_of (u o.x)) (size_of (t o.x)))) (sym once_is) (smaller_at o.x rx t z)

        second : ltb (size_of (twice z)) (size_of (once z)) ≡ (eqb z o.y && ltb (size_of (twice o.y)) (size_of (once o.y)))
        second = subst (λ (u : Table). ltb (size_of (u z)) (size_of (once z)) ≡ (eqb z o.y && ltb (size_of (u o.y)) (size_of (once o.y)))) (sym twice_kept) (smaller_at o.y ry once z)

    -- both have one
    pub run_done : n ≤ 256 → eqb (size_of (once o.x)) 0 ≡ false → eqb (size_of (twice o.y)) 0 ≡ false → (set : List ℕ) (a b : Bool) → a ≡ ltb (size_of (once o.x)) (size_of (t o.x)) → b ≡ ltb (size_of (twice o.y)) (size_of (once o.y)) → ((z : ℕ) → in_set set z ≡ ((a && (eqb z o.x && ltb o.x 256)) || (b && (eqb z o.y && ltb o.y 256)))) → Run n (offset o) t (Ok set) twice
    run_done few fx fy set a b ea eb es =
        run_by n (offset o) t (Ok set) twice fits twice_inside (names few set a b ea eb es) (λ h. (subst (λ u. is_void n u ≡ false) (twice_is twice twice_kept) (full h fx fy), twice_is twice twice_kept))
