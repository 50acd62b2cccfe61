-- Which rules wait after others have joined.
use Rattle.std.proofs.Common.{◌≡◌, ℕ, zero, suc, ◌<◌, Bool, true, false, cond, not, ◌&&◌, ◌||◌, eqb, ◌⊎◌, List, [], ◌∷◌, ◌++◌, sym, refl, ap, ◌∙◌, subst, ap₂, inl, inr, ⊎_elim, arith}
use Rattle.std.proofs.Math.Bool.{or_assoc}
use Rattle.std.proofs.lemmas.List.{append-nil}
use Rattle.std.proofs.lemmas.Bool.{both_ways, cases_lt, cases_Bool, eqb-true, eq-eqb, and_parts, and_from, or_cases, or_parts, or_left, or_right, not_from_false}
use Rattle.rules.specs.Sets.{select}
use Rattle.sessions.specs.Agendas.{member, upto, joined}

pub member_append : (k : ℕ) (xs ys : List ℕ) → member k (xs ++ ys) ≡ (member k xs || member k ys)
member_append k [] ys = refl
member_append k (x ∷ xs) ys = ap (λ (b : Bool). eqb k x || b) (member_append k xs ys) ∙ sym (or_assoc (eqb k x) (member k xs) (member k ys))

single : (k n : ℕ) (b : Bool) → member k (cond b (n ∷ []) []) ≡ true → (k ≡ n) × (b ≡ true)
single k n true h = (⊎_elim (λ e. eqb-true k n e) (λ no. absurd (both_ways false refl no)) (or_cases (eqb k n) false h), refl)
single k n false h = absurd (both_ways false refl h)

-- who is selected lies below the bound and passes
pub selected : (p : ℕ → Bool) (n k : ℕ) → member k (select p n) ≡ true → (k < n) × (p k ≡ true)
selected p zero k h = absurd (both_ways false refl h)
selected p (suc n) k h =
    ⊎_elim
    (λ low. let s = selected p n k low in ((let l = s.0 in omega arith), s.1))
    (λ here. let s = single k n (p n) here in ((let e = s.0 in omega arith), subst (λ m. p m ≡ true) (sym s.0) s.1))
    (or_cases (member k (select p n)) _ (sym (member_append k (select p n) _) ∙ h))

-- who passes is selected
pub selects : (p : ℕ → Bool) (n k : ℕ) → k < n → p k ≡ true → member k (select p n) ≡ true
selects p zero k l h = absurd (omega arith)
selects p (suc n) k l h =
    member_append k (select p n) _
    ∙ ⊎_elim
    (λ low. or_left (member k (select p n)) _ (selects p n k low h))
    (λ high.
    let e : k ≡ n = omega arith in
    or_right (member k (select p n)) _ (ap (λ (b : Bool). member k (cond b (n ∷ []) [])) (subst (λ m. p m ≡ true) e h) ∙ or_left (eqb k n) false (eq-eqb k n e)))
    (cases_lt k n)

-- who waits after others joined: who waited, or who joined
pub joined_from : (agenda : List ℕ) (s : ℕ → Bool) (k : ℕ) → member k (joined agenda s) ≡ true → (member k agenda ≡ true) ⊎ ((k < 256) × (s k ≡ true))
unfolding joined
joined_from agenda s k h =
    ⊎_elim inl
    (λ new. let q = selected (λ k. s k && not (member k agenda)) 256 k new in inr (q.0, (and_parts (s k) _ q.1).0))
    (or_cases (member k agenda) _ (sym (member_append k agenda _) ∙ h))

-- who does not wait then neither waited nor was woken
pub joined_not : (agenda : List ℕ) (s : ℕ → Bool) (k : ℕ) → k < 256 → member k (joined agenda s) ≡ false → (member k agenda ≡ false) × (s k ≡ false)
unfolding joined
joined_not agenda s k l h =
    let parts = or_parts (member k agenda) _ (sym (member_append k agenda _) ∙ h) in (
      parts.0,
      ⊎_elim
          (λ yes. absurd (both_ways (member k (select (λ k. s k && not (member k agenda)) 256)) parts.1 (selects (λ k. s k && not (member k agenda)) 256 k l (and_from (s k) _ yes (not_from_false (member k agenda) parts.0)))))
          (λ no. no) (cases_Bool (s k)),
    )

select_none : (p : ℕ → Bool) (n : ℕ) → ((k : ℕ) → k < n → p k ≡ false) → select p n ≡ []
select_none p zero f = refl
select_none p (suc n) f = ap₂ (λ (xs : List ℕ) (b : Bool). xs ++ cond b (n ∷ []) []) (select_none p n (λ k l. f k (omega arith))) (f n (omega arith))

-- where all that are woken wait already none joins
pub joined_none : (agenda : List ℕ) (s : ℕ → Bool) → ((k : ℕ) → s k ≡ true → member k agenda ≡ true) → joined agenda s ≡ agenda
unfolding joined
joined_none agenda s f =
    ap (λ xs. agenda ++ xs) (select_none (λ k. s k && not (member k agenda)) 256 (λ k l. none k (s k) (member k agenda) (f k)))
    ∙ append-nil agenda
  where
    none : (k : ℕ) (a b : Bool) → (a ≡ true → b ≡ true) → (a && not b) ≡ false
    none k false b g = refl
    none k true b g = ap not (g refl)

-- all numbers below a bound, and no other
pub upto_all : (n k : ℕ) → k < n → member k (upto n) ≡ true
upto_all n k l = selects (λ _. true) n k l refl

pub upto_below : (n k : ℕ) → member k (upto n) ≡ true → k < n
upto_below n k h = (selected (λ _. true) n k h).0
