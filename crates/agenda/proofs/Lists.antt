-- Lists of numbers without repetition: members, room, and the numbers below a bound that pass.
use Rattle.std.proofs.Common.{◌≡◌, ℕ, zero, suc, ◌+◌, ◌<◌, ◌≤◌, Bool, true, false, cond, not, ◌&&◌, ◌||◌, eqb, ltb, List, [], ◌∷◌, ◌++◌, length, sym, refl, ap, ◌∙◌, subst, ap₂, add-one, arith}
use Rattle.std.proofs.Math.Bool.{and-true, or-false}
use Rattle.std.proofs.lemmas.List.{append-nil}
use Rattle.std.proofs.lemmas.Bool.{eqb-false, eq-eqb, ne_eqb, lt-ltb, and_from, not_from_false, or_from, or_left, or_right, or_parts, eqb-true}
use Rattle.tables.specs.Tables.{count}
use Rattle.tables.proofs.Counts.{count_le, count_less}
use Rattle.rules.specs.Sets.{select}
use Rattle.sessions.specs.Agendas.{member, NoTwice}
use Rattle.sessions.proofs.Waits.{member_append}
use Rattle.agenda.specs.Rings.{is_apart}

-- ---- members

pub member_push : (k x : ℕ) (xs : List ℕ) → member k (xs ++ x ∷ []) ≡ (member k xs || eqb k x)
member_push k x xs = member_append k xs (x ∷ []) ∙ ap (λ (b : Bool). member k xs || b) (or-false (eqb k x))

-- no member of either, no member of both
pub member_neither : (k : ℕ) (xs ys : List ℕ) → member k xs ≡ false → member k ys ≡ false → member k (xs ++ ys) ≡ false
member_neither k xs ys a b = member_append k xs ys ∙ or_from (member k xs) (member k ys) a b

-- ---- no number twice

pub says_apart : (xs : List ℕ) → NoTwice xs → is_apart xs ≡ true
says_apart [] h = refl
says_apart (x ∷ xs) h = and_from (not (member x xs)) (is_apart xs) (not_from_false (member x xs) h.0) (says_apart xs h.1)

pub push_apart : (x : ℕ) (xs : List ℕ) → NoTwice xs → member x xs ≡ false → NoTwice (xs ++ x ∷ [])
push_apart x [] h new = (refl, tt)
push_apart x (y ∷ ys) h new =
    let parts = or_parts (eqb x y) (member x ys) new in
    let other : eqb y x ≡ false = ne_eqb y x (λ e. eqb-false x y parts.0 (sym e)) in
    (member_push y x ys ∙ or_from (member y ys) (eqb y x) h.0 other, push_apart x ys h.1 parts.1)

-- numbers below n of which none stands twice are at most as many as the numbers below n that are among them
pub length_count : (n : ℕ) (xs : List ℕ) → NoTwice xs → ((k : ℕ) → member k xs ≡ true → k < n) → length xs ≤ count (λ k. member k xs) n
length_count n [] h low = omega arith
length_count n (x ∷ xs) h low =
    let rest = length_count n xs h.1 (λ k e. low k (or_right (eqb k x) (member k xs) e)) in
    let here : member x (x ∷ xs) ≡ true = or_left (eqb x x) (member x xs) (eq-eqb x x refl) in
    let more = count_less (λ k. member k xs) (λ k. member k (x ∷ xs)) n (λ k l e. or_right (eqb k x) (member k xs) e) x (low x here) here h.0 in
    omega arith

-- so there is room where a number below n is not among them
pub room : (n x : ℕ) (xs : List ℕ) → NoTwice xs → ((k : ℕ) → member k xs ≡ true → k < n) → x < n → member x xs ≡ false → length xs < n
room n x xs h low below new =
    let l = length_count n xs h low in
    let less = count_less (λ k. member k xs) (λ _. true) n (λ k l e. refl) x below refl new in
    let all = count_le (λ _. true) n in
    omega arith

-- ---- the members told by a test

-- one more is told
pub push_tells : (old new : ℕ → Bool) (x : ℕ) (xs : List ℕ) → x < 256 → ((k : ℕ) → old k ≡ member k xs) → ((k : ℕ) → new k ≡ (old k || (eqb k x && ltb x 256))) → (k : ℕ) → new k ≡ member k (xs ++ x ∷ [])
push_tells old new x xs below tells put k =
    put k
    ∙ ap₂ (λ (a b : Bool). a || (eqb k x && b)) (tells k) (lt-ltb x 256 below)
    ∙ ap (λ (b : Bool). member k xs || b) (and-true (eqb k x))
    ∙ sym (member_push k x xs)

-- the first is told no more
pub pop_tells : (old new : ℕ → Bool) (x : ℕ) (xs : List ℕ) → member x xs ≡ false → ((k : ℕ) → old k ≡ member k (x ∷ xs)) → ((k : ℕ) → new k ≡ (old k && not (eqb k x))) → (k : ℕ) → new k ≡ member k xs
pop_tells old new x xs once tells taken k = taken k ∙ ap (λ (b : Bool). b && not (eqb k x)) (tells k) ∙ by (eqb k x) refl
  where
    by : (b : Bool) → eqb k x ≡ b → ((b || member k xs) && not b) ≡ member k xs
    by true e = sym (subst (λ j. member j xs ≡ false) (sym (eqb-true k x e)) once)
    by false e = and-true (member k xs)

-- ---- the numbers below a bound that pass

-- all lie below the bound
pub select_past : (p : ℕ → Bool) (n k : ℕ) → n ≤ k → member k (select p n) ≡ false
select_past p zero k h = refl
select_past p (suc n) k h = member_neither k (select p n) (cond (p n) (n ∷ []) []) (select_past p n k (omega arith)) (last (p n))
  where
    last : (b : Bool) → member k (cond b (n ∷ []) []) ≡ false
    last true = or_from (eqb k n) false (ne_eqb k n (λ e. omega arith)) refl
    last false = refl

-- one more that passes
pub select_more : (p : ℕ → Bool) (n : ℕ) → p n ≡ true → select p (n + 1) ≡ select p n ++ n ∷ []
select_more p n e = ap (select p) (add-one n) ∙ ap (λ (b : Bool). select p n ++ cond b (n ∷ []) []) e

-- none stands twice
pub select_apart : (p : ℕ → Bool) (n : ℕ) → NoTwice (select p n)
select_apart p zero = tt
select_apart p (suc n) = last (p n) (select_apart p n)
  where
    last : (b : Bool) → NoTwice (select p n) → NoTwice (select p n ++ cond b (n ∷ []) [])
    last true h = push_apart n (select p n) h (select_past p n n (omega arith))
    last false h = subst NoTwice (sym (append-nil (select p n))) h

-- ---- a list in two parts

pub part_member : (xs ys : List ℕ) (x : ℕ) → member x (xs ++ x ∷ ys) ≡ true
part_member xs ys x = member_append x xs (x ∷ ys) ∙ or_right (member x xs) (member x (x ∷ ys)) (or_left (eqb x x) (member x ys) (eq-eqb x x refl))

-- what stands somewhere does not stand before it
pub part_new : (xs ys : List ℕ) (x : ℕ) → NoTwice (xs ++ x ∷ ys) → member x xs ≡ false
part_new [] ys x h = refl
part_new (y ∷ xs) ys x h =
    let apart = or_parts (member y xs) (member y (x ∷ ys)) (sym (member_append y xs (x ∷ ys)) ∙ h.0) in
    let other = or_parts (eqb y x) (member y ys) apart.1 in
    or_from (eqb x y) (member x xs) (ne_eqb x y (λ e. eqb-false y x other.0 (sym e))) (part_new xs ys x h.1)
