-- One turn of settling: a rule is taken and run, and those that it woke join.
use Rattle.std.proofs.Common.{◌≡◌, ℕ, zero, suc, ◌+◌, ◌*◌, ◌<◌, ◌≤◌, Bool, false, List, [], ◌∷◌, length, Ok, Err, sym, ap, ◌∙◌, subst, ⊎_elim, arith}
use mathlib.Core.Path.{fun_ext}
use Rattle.std.proofs.lemmas.Bool.{both_ways, cases_lt, le-ltb, and_left}
use Rattle.tables.specs.Values.{value_at}
use Rattle.tables.specs.Stores.{Frame}
use Rattle.tables.specs.Tables.{Domain, Table, size_of, Shaped, Inside}
use Rattle.tables.proofs.Counts.{count_le}
use Rattle.rules.specs.Rules.{Rule}
use Rattle.rules.specs.declared.ran.Failed.{Failed}
use Rattle.rules.specs.Banks.{in_set, called, woken, Names, Run}
use Rattle.rules.proofs.Numbers.{woken_none}
use Rattle.rules.proofs.Voids.{size_mono}
use Rattle.sessions.specs.Agendas.{joined}
use Rattle.sessions.specs.Steps.{values, smaller, woke, Outcome, settled, failed, Settles, rests, fails, runs}
use Rattle.sessions.proofs.Waits.{joined_none}
use Rattle.sessions.proofs.Working.{none_outside}

-- ---- sums of sizes

size_le : (d : Domain) → size_of d ≤ 1024
unfolding size_of
size_le d = count_le (λ p. d (value_at p)) 1024

pub values_le : (n : ℕ) (t : Table) → values n t ≤ 1024 * n
values_le zero t = omega arith
values_le (suc n) t = let a = size_le (t n) in let b = values_le n t in omega arith

pub values_mono : (n : ℕ) (u t : Table) → Inside u t → values n u ≤ values n t
values_mono zero u t i = omega arith
values_mono (suc n) u t i = let a = size_mono (u n) (t n) (i n) in let b = values_mono n u t i in omega arith

values_same : (n : ℕ) (u t : Table) → Inside u t → values n t ≤ values n u → (x : ℕ) → x < n → size_of (t x) ≤ size_of (u x)
values_same zero u t i h x l = absurd (omega arith)
values_same (suc n) u t i h x l =
    let a = size_mono (u n) (t n) (i n) in
    let b = values_mono n u t i in
    ⊎_elim (λ low. values_same n u t i (omega arith) x low) (λ high. let e : x ≡ n = omega arith in subst (λ m. size_of (t m) ≤ size_of (u m)) (sym e) (omega arith)) (cases_lt x n)

-- the first measure
pub at_first : (n : ℕ) (t : Table) (k : ℕ) → n ≤ 256 → k ≤ 256 → 0 + (257 * values n t + k) ≤ 67371264
at_first n t k few short = let v = values_le n t in omega arith

-- ---- one turn

-- what the run named wakes as what got smaller
pub woke_named : (rules : List Rule) (t u : Table) (s rest : List ℕ) → Names s t u → joined rest (woken rules (in_set s)) ≡ woke rules t u rest
woke_named rules t u s rest named = ap (λ (f : ℕ → Bool). joined rest (woken rules f)) (fun_ext named)

pub turn : (n : ℕ) (rules : List Rule) (a rest rest' s : List ℕ) (i : ℕ) (t u : Table) → a ≡ i ∷ rest → Run n (called rules i) t (Ok s) u → rest' ≡ joined rest (woken rules (in_set s)) → (k : ℕ) (o : Outcome) (v : Table) → Settles n rules rest' u k o v → Settles n rules a t (suc k) o v
turn n rules a rest rest' s i t u is run joins k o v more =
    subst (λ (l : List ℕ). Settles n rules l t (suc k) o v) (sym is) (runs run (subst (λ (l : List ℕ). Settles n rules l u k o v) (joins ∙ woke_named rules t u s rest run.named) more))

pub last_turn : (n : ℕ) (rules : List Rule) (a rest : List ℕ) (i : ℕ) (t u : Table) (e : Failed) → a ≡ i ∷ rest → Run n (called rules i) t (Err e) u → Settles n rules a t 1 (failed i) u
last_turn n rules a rest i t u e is run = subst (λ (l : List ℕ). Settles n rules l t 1 (failed i) u) (sym is) (fails run)

pub no_turn : (n : ℕ) (rules : List Rule) (a : List ℕ) (t : Table) → a ≡ [] → Settles n rules a t 0 settled t
no_turn n rules a t is = subst (λ (l : List ℕ). Settles n rules l t 0 settled t) (sym is) rests

-- either a value is gone, or none joined
pub falls : (n : ℕ) (rules : List Rule) (a rest rest' s : List ℕ) (i : ℕ) (t u : Table) → Shaped n t → a ≡ i ∷ rest → Run n (called rules i) t (Ok s) u → rest' ≡ joined rest (woken rules (in_set s)) → length rest' ≤ 256 → 257 * values n u + length rest' < 257 * values n t + length a
falls n rules a rest rest' s i t u shaped is run joins short =
    let long = ap length is in
    ⊎_elim
    (λ less. omega arith)
    (λ same.
    let mono = values_mono n u t run.inside in
    let none : woke rules t u rest ≡ rest = joined_none rest (woken rules (smaller t u)) (λ k h. absurd (both_ways _ (woken_none rules (smaller t u) k (λ x l. and_left (smaller t u x) ((called rules k).watches x) (unchanged same x))) h)) in
    let e = ap length (joins ∙ woke_named rules t u s rest run.named ∙ none) in
    omega arith)
    (cases_lt (values n u) (values n t))
  where
    unchanged : values n t ≤ values n u → (x : ℕ) → smaller t u x ≡ false
    unchanged same x = ⊎_elim (λ low. le-ltb _ _ (values_same n u t run.inside same x low)) (λ high. none_outside n t u shaped x high) (cases_lt x n)

-- one turn more, by the frames that the store has on the way: f at the beginning, e before the turn, d after it
pub more_turns : (f e d : Frame) (rules : List Rule) (a₀ a rest rest' s : List ℕ) (i r : ℕ) (t₀ t u : Table) → e ≡ f → d ≡ e → Shaped e.vars t → a ≡ i ∷ rest → Run e.vars (called rules i) t (Ok s) u → rest' ≡ joined rest (woken rules (in_set s)) → length rest' ≤ 256
    → ((k : ℕ) (o : Outcome) (v : Table) → Settles f.vars rules a t k o v → Settles f.vars rules a₀ t₀ (r + k) o v)
    → r + (257 * values e.vars t + length a) ≤ 67371264
    → ((k : ℕ) (o : Outcome) (v : Table) → Settles f.vars rules rest' u k o v → Settles f.vars rules a₀ t₀ ((r + 1) + k) o v) × ((r + 1) + (257 * values d.vars u + length rest') ≤ 67371264) × (257 * values d.vars u + length rest' < 257 * values e.vars t + length a)
more_turns f e d rules a₀ a rest rest' s i r t₀ t u ef de shaped is run joins short inv bound =
    let less = falls e.vars rules a rest rest' s i t u shaped is run joins short in
    let less' : 257 * values d.vars u + length rest' < 257 * values e.vars t + length a = subst (λ (h : Frame). 257 * values h.vars u + length rest' < 257 * values e.vars t + length a) (sym de) less in (
      (λ k o v more.
          let sum : r + suc k ≡ (r + 1) + k = omega arith in
          subst (λ m. Settles f.vars rules a₀ t₀ m o v) sum (inv (suc k) o v (turn f.vars rules a rest rest' s i t u is (subst (λ (h : Frame). Run h.vars (called rules i) t (Ok s) u) ef run) joins k o v more))),
      omega arith,
      less',
    )
