-- The members of a set one after another.
use Rattle.std.proofs.Common.{◌≡◌, ℕ, zero, suc, ◌+◌, ◌<◌, ◌≤◌, Bool, true, false, cond, ◌&&◌, ◌||◌, leb, List, [], ◌∷◌, ◌++◌, Some, None, sym, refl, ap, ◌∙◌, subst, ap₂, ⊎_elim, arith}
use Rattle.std.proofs.Math.Bool.{or_comm}
use Rattle.std.specs.List.{list_any}
use Rattle.std.specs.Iterator.{Yields, YieldsFirst}
use Rattle.std.proofs.lemmas.List.Folds.{list_any-append}
use Rattle.std.proofs.lemmas.Bool.{cases_lt, le-leb, lt-leb, and_left, and_right, and_from}
use Rattle.tables.specs.Rows.{First}
use Rattle.rules.specs.declared.members.Members.{Members}
use Rattle.rules.specs.Banks.{in_set, some}
use Rattle.rules.specs.Sets.{select, members_of, members_left}

pub select_ext : (p q : ℕ → Bool) (n : ℕ) → ((k : ℕ) → k < n → p k ≡ q k) → select p n ≡ select q n
select_ext p q zero f = refl
select_ext p q (suc n) f = ap₂ (λ (xs : List ℕ) (b : Bool). xs ++ cond b (n ∷ []) []) (select_ext p q n (λ k h. f k (omega arith))) (f n (omega arith))

pub select_none : (p : ℕ → Bool) (n : ℕ) → ((k : ℕ) → k < n → p k ≡ false) → select p n ≡ []
select_none p zero f = refl
select_none p (suc n) f = ap₂ (λ (xs : List ℕ) (b : Bool). xs ++ cond b (n ∷ []) []) (select_none p n (λ k h. f k (omega arith))) (f n (omega arith))

-- the first that passes, and those after it
select_first : (p q : ℕ → Bool) (n b : ℕ) → b < n → p b ≡ true → ((k : ℕ) → k < b → p k ≡ false) → ((k : ℕ) → k ≤ b → q k ≡ false) → ((k : ℕ) → b < k → k < n → p k ≡ q k) → select p n ≡ b ∷ select q n
select_first p q zero b h e below out same = absurd (omega arith)
select_first p q (suc n) b h e below out same =
    ⊎_elim
    (λ low. ap₂ (λ (xs : List ℕ) (c : Bool). xs ++ cond c (n ∷ []) []) (select_first p q n b low e below out (λ k l m. same k l (omega arith))) (same n low (omega arith)))
    (λ high.
    let is : b ≡ n = omega arith in
    ap₂ (λ (xs : List ℕ) (c : Bool). xs ++ cond c (n ∷ []) []) (select_none p n (λ k l. below k (omega arith))) (subst (λ m. p m ≡ true) is e)
    ∙ sym (ap₂ (λ (m : ℕ) (xs : List ℕ). m ∷ xs) is (ap₂ (λ (xs : List ℕ) (c : Bool). xs ++ cond c (n ∷ []) []) (select_none q n (λ k l. out k (omega arith))) (out n (omega arith)))))
    (cases_lt b n)

-- one of those that pass has a property exactly where one below the bound passes and has it
any_select : (p f : ℕ → Bool) (n : ℕ) → list_any f (select p n) ≡ some (λ k. p k && f k) n
any_select p f zero = refl
any_select p f (suc n) =
    list_any-append f (select p n) (cond (p n) (n ∷ []) []) ∙ ap₂ (λ (a b : Bool). a || b) (any_select p f n) (last (p n)) ∙ or_comm (some (λ k. p k && f k) n) (p n && f n)
  where
    last : (a : Bool) → list_any f (cond a (n ∷ []) []) ≡ (a && f n)
    last true = or_comm (f n) false
    last false = refl

pub any_member : (f : ℕ → Bool) (s : List ℕ) → list_any f (members_of s) ≡ some (λ k. in_set s k && f k) 256
unfolding members_of
any_member f s = any_select (in_set s) f 256

-- at the start all are still to come
pub all_left : (s : List ℕ) → members_left (record { set = s; from = 0 }) ≡ members_of s
unfolding members_of members_left
all_left s = select_ext (λ k. leb 0 k && in_set s k) (in_set s) 256 (λ k h. ap (λ (b : Bool). b && in_set s k) (le-leb 0 k (omega arith)))

module _ (m : Members) where
  -- none is left
  pub left_none : First (in_set m.set) m.from 256 None → members_left m ≡ []
  unfolding members_left
  left_none f = select_none (λ k. leb m.from k && in_set m.set k) 256 (λ k h.
      ⊎_elim (λ low. and_left _ _ (lt-leb m.from k low)) (λ high. and_right _ _ (f k high h)) (cases_lt k m.from))

  -- one is left, and others after it
  pub left_some : (b : ℕ) → First (in_set m.set) m.from 256 (Some b) → members_left m ≡ b ∷ members_left (record { set = m.set; from = b + 1 })
  unfolding members_left
  left_some b f = select_first (λ k. leb m.from k && in_set m.set k) (λ k. leb (b + 1) k && in_set m.set k) 256 b f.1
      (and_from _ _ (le-leb m.from b f.0) f.2)
      (λ k h. ⊎_elim (λ low. and_left _ _ (lt-leb m.from k low)) (λ high. and_right _ _ (f.3 k high h)) (cases_lt k m.from))
      (λ k h. and_left _ _ (lt-leb (b + 1) k (omega arith)))
      (λ k h l. ap (λ (c : Bool). c && in_set m.set k) (let below : m.from ≤ b = f.0 in le-leb m.from k (omega arith) ∙ sym (le-leb (b + 1) k (omega arith))))

-- those that were given stood before those that are left
pub given : (xs : List ℕ) (s t : Members) → Yields (YieldsFirst members_left) s xs t → members_left s ≡ xs ++ members_left t
given [] s t y = ap members_left y
given (x ∷ xs) s t y = y.1 ∙ ap (λ (ys : List ℕ). x ∷ ys) (given xs y.0 t y.2)
