-- Which rules join the agenda after a change of the table, and the world then.
use Rattle.std.proofs.Common.{◌≡◌, ℕ, ◌≤◌, Bool, true, false, ◌&&◌, ◌||◌, eqb, ltb, List, sym, refl, ap, ◌∙◌, ap₂, ⊎_elim, arith}
use Rattle.std.proofs.Math.Bool.{and-true}
use mathlib.Core.Path.{fun_ext}
use Rattle.std.proofs.lemmas.Bool.{both_ways, cases_lt, cases_eq, eq-eqb, ne_eqb, lt-ltb, le-ltb, cond-false, and_right}
use Rattle.tables.specs.Tables.{Table, size_of, Shaped, kept}
use Rattle.tables.specs.Stores.{answer_keep}
use Rattle.tables.specs.declared.kept.Kept.{Kept}
use Rattle.tables.proofs.Counts.{size_none}
use Rattle.tables.proofs.Keeps.{kept_beside, nothing_outside}
use Rattle.rules.specs.Rules.{Rule}
use Rattle.rules.specs.Banks.{in_set, nothing, woken}
use Rattle.rules.proofs.Numbers.{nothing_in, woken_none}
use Rattle.sessions.specs.declared.standing.Standing.{Standing}
use Rattle.sessions.specs.declared.standing.Standing.TheVariants as standing
use Rattle.sessions.specs.Agendas.{joined}
use Rattle.sessions.specs.Worlds.{World}
use Rattle.sessions.specs.Steps.{smaller}
use Rattle.sessions.proofs.Waits.{joined_none}
use Rattle.session.specs.Meaning.{after_order}

-- worlds by their parts
pub world_is : {c d : Standing} {a b : List ℕ} {s r : ℕ} {t u : Table} {v w : List Table} → c ≡ d → a ≡ b → s ≡ r → t ≡ u → v ≡ w → ◌≡◌ {A = World} (record { standing = c; agenda = a; saves = s; table = t; saved = v }) (record { standing = d; agenda = b; saves = r; table = u; saved = w })
world_is {c} {d} {a} {b} {s} {r} {t} {u} {v} {w} p q e f g =
    ap₂ (λ (x : Standing) (y : List ℕ). record { standing = x; agenda = y; saves = s; table = t; saved = v }) p q
    ∙ ap₂ (λ (x : ℕ) (y : Table). record { standing = d; agenda = b; saves = x; table = y; saved = v }) e f
    ∙ ap (λ (x : List Table). record { standing = d; agenda = b; saves = r; table = u; saved = x }) g

-- ---- one variable

-- its set wakes the rules that watch it
pub wakes_one : (rules : List Rule) (agenda after : List ℕ) (set₀ set : List ℕ) (x : ℕ) → set₀ ≡ nothing → ((j : ℕ) → in_set set j ≡ (in_set set₀ j || (eqb j x && ltb x 256))) → after ≡ joined agenda (woken rules (in_set set)) → after ≡ joined agenda (woken rules (λ z. eqb z x && ltb x 256))
wakes_one rules agenda after set₀ set x none is e =
    e ∙ ap (λ (s : ℕ → Bool). joined agenda (woken rules s))
    (fun_ext (λ j. is j ∙ ap (λ (s : List ℕ). in_set s j || (eqb j x && ltb x 256)) none ∙ ap (λ (q : Bool). q || (eqb j x && ltb x 256)) (nothing_in j)))

-- it got smaller, and they were woken
pub wakes_smaller : (rules : List Rule) (agenda after : List ℕ) (x : ℕ) (b : Bool) → b ≡ true → after ≡ joined agenda (woken rules (λ z. eqb z x && ltb x 256)) → after ≡ joined agenda (woken rules (λ z. b && (eqb z x && ltb x 256)))
wakes_smaller rules agenda after x b sure e = e ∙ ap (λ (q : Bool). joined agenda (woken rules (λ z. q && (eqb z x && ltb x 256)))) (sym sure)

-- it did not
pub wakes_none : (rules : List Rule) (agenda : List ℕ) (x : ℕ) (b : Bool) → b ≡ false → agenda ≡ joined agenda (woken rules (λ z. b && (eqb z x && ltb x 256)))
wakes_none rules agenda x b lacks =
    sym (joined_none agenda (woken rules (λ z. b && (eqb z x && ltb x 256)))
    (λ k h. absurd (both_ways _ (woken_none rules (λ z. b && (eqb z x && ltb x 256)) k (λ y l. off b lacks _ _)) h)))
  where
    off : (b : Bool) → b ≡ false → (p q : Bool) → ((b && p) && q) ≡ false
    off false e p q = refl
    off true e p q = absurd (both_ways true e refl)

-- a keep makes no other variable smaller
pub kept_smaller : (n x : ℕ) (row : List ℕ) (t : Table) → n ≤ 256 → Shaped n t → (z : ℕ) → (ltb (size_of (kept x row t x)) (size_of (t x)) && (eqb z x && ltb x 256)) ≡ smaller t (kept x row t) z
kept_smaller n x row t few shaped z =
    ⊎_elim
    (λ (e : z ≡ x). ⊎_elim
    (λ low. ap (λ (q : Bool). ltb (size_of (kept x row t x)) (size_of (t x)) && q) (ap₂ (λ (p q : Bool). p && q) (eq-eqb z x e) (lt-ltb x 256 low)) ∙ and-true _ ∙ ap (λ y. smaller t (kept x row t) y) (sym e))
    (λ high.
    let none = size_none (t x) (λ v _. nothing_outside n t shaped x (omega arith) v) in
    let no : ltb (size_of (kept x row t x)) (size_of (t x)) ≡ false = le-ltb _ _ (omega arith) in
    ap (λ (q : Bool). q && (eqb z x && ltb x 256)) no ∙ sym (ap (λ y. smaller t (kept x row t) y) e ∙ no))
    (cases_lt x 256))
    (λ ne.
    let same : size_of (kept x row t z) ≡ size_of (t z) = ap size_of (fun_ext (λ v. kept_beside x row t z v ne)) in
    let no : smaller t (kept x row t) z ≡ false = le-ltb _ _ (omega arith) in
    and_right _ _ (ap (λ (q : Bool). q && ltb x 256) (ne_eqb z x ne)) ∙ sym no)
    (cases_eq z x)

-- the world after an order that left its variable a value
pub stirs_world : (n x : ℕ) (row : List ℕ) (t t' : Table) (rules : List Rule) (agenda agenda' : List ℕ) (s s' : ℕ) (v v' : List Table) (c d : Standing) (k : Kept) → d ≡ standing.Stirred → n ≤ 256 → Shaped n t → t' ≡ kept x row t → k ≡ answer_keep (t x) (t' x) → k.empty ≡ false → agenda' ≡ joined agenda (woken rules (λ z. k.smaller && (eqb z x && ltb x 256))) → s' ≡ s → v' ≡ v
    → ◌≡◌ {A = World} (record { standing = d; agenda = agenda'; saves = s'; table = t'; saved = v' }) (after_order rules x (kept x row t) (record { standing = c; agenda = agenda; saves = s; table = t; saved = v }))
stirs_world n x row t t' rules agenda agenda' s s' v v' c d k ed few shaped et ek left ea es ev =
    let some : eqb (size_of (kept x row t x)) 0 ≡ false = ap (λ (u : Table). eqb (size_of (u x)) 0) (sym et) ∙ sym (ap (λ (q : Kept). q.empty) ek) ∙ left in
    let small : k.smaller ≡ ltb (size_of (kept x row t x)) (size_of (t x)) = ap (λ (q : Kept). q.smaller) ek ∙ ap (λ (u : Table). ltb (size_of (u x)) (size_of (t x))) et in
    world_is ed
    (ea ∙ ap (λ (q : ℕ → Bool). joined agenda (woken rules q)) (fun_ext (λ z. ap (λ (b : Bool). b && (eqb z x && ltb x 256)) small ∙ kept_smaller n x row t few shaped z)))
    es et ev
    ∙ sym (cond-false _ _ _ some)

-- and the answer then
pub stirs_some : (x : ℕ) (row : List ℕ) (t t' : Table) (k : Kept) → t' ≡ kept x row t → k ≡ answer_keep (t x) (t' x) → k.empty ≡ false → eqb (size_of (kept x row t x)) 0 ≡ false
stirs_some x row t t' k et ek left = ap (λ (u : Table). eqb (size_of (u x)) 0) (sym et) ∙ sym (ap (λ (q : Kept). q.empty) ek) ∙ left
