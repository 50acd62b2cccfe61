-- How many assignments of a table pass a test.
use Rattle.std.proofs.Common.{◌≡◌, ℕ, zero, suc, ◌+◌, ◌<◌, ◌≤◌, Bool, true, false, cond, ◌&&◌, [], ◌∷◌, length, ℤ, sym, refl, ap, ◌∙◌, subst, ap₂, le_of_suc-le-suc, not-suc-le-zero, add-zero, zero-add, arith}
use Rattle.std.proofs.lemmas.Bool.{and_parts, and_from}
use Rattle.tables.specs.Values.{value_at}
use Rattle.tables.specs.Tables.{Table, count, size_of}
use Rattle.rules.specs.Rules.{Assignment, at, In}
use Rattle.sessions.specs.Numbers.{total, number}

-- whether the values of an assignment, counted from variable x on, are in their domains
abbrev pub in_from : ℕ → Table → Assignment → Bool
in_from x t [] = true
in_from x t (v ∷ a) = t x v && in_from (suc x) t a

-- ---- an assignment by its values

pub from_in : (a : Assignment) (x : ℕ) (t : Table) → ((y : ℕ) → y < length a → t (x + y) (at a y) ≡ true) → in_from x t a ≡ true
from_in [] x t f = refl
from_in (v ∷ a) x t f =
    and_from (t x v) _ (subst (λ m. t m v ≡ true) (add-zero x) (f 0 (omega arith)))
    (from_in a (suc x) t (λ y l. let e : x + suc y ≡ suc x + y = omega arith in subst (λ m. t m (at a y) ≡ true) e (f (suc y) (omega arith))))

pub from_in_says : (a : Assignment) (x : ℕ) (t : Table) → in_from x t a ≡ true → (y : ℕ) → y < length a → t (x + y) (at a y) ≡ true
from_in_says [] x t h y l = absurd (not-suc-le-zero l)
from_in_says (v ∷ a) x t h zero l = subst (λ m. t m v ≡ true) (sym (add-zero x)) (and_parts (t x v) _ h).0
from_in_says (v ∷ a) x t h (suc y) l = let e : suc x + y ≡ x + suc y = omega arith in subst (λ m. t m (at a y) ≡ true) e (from_in_says a (suc x) t (and_parts (t x v) _ h).1 y (le_of_suc-le-suc l))

-- the two ways to say that an assignment lies in a table
pub in_test : (n : ℕ) (t : Table) (a : Assignment) → In n t a → in_from 0 t a ≡ true
in_test n t a h = from_in a 0 t (λ y l. subst (λ m. t m (at a y) ≡ true) (sym (zero-add y)) (h.1 y (let e = h.0 in omega arith)))

pub test_in : (n : ℕ) (t : Table) (a : Assignment) → length a ≡ n → in_from 0 t a ≡ true → In n t a
test_in n t a e h = (e, λ x l. subst (λ m. t m (at a x) ≡ true) (zero-add x) (from_in_says a 0 t h x (omega arith)))

-- ---- sums

pub total_ext : (f g : ℕ → ℕ) (n : ℕ) → ((k : ℕ) → k < n → f k ≡ g k) → total f n ≡ total g n
total_ext f g zero h = refl
total_ext f g (suc n) h = ap₂ (λ a b. a + b) (h n (omega arith)) (total_ext f g n (λ k l. h k (omega arith)))

pub total_none : (f : ℕ → ℕ) (n : ℕ) → ((k : ℕ) → k < n → f k ≡ 0) → total f n ≡ 0
total_none f zero h = refl
total_none f (suc n) h = ap₂ (λ a b. a + b) (h n (omega arith)) (total_none f n (λ k l. h k (omega arith)))

total_count : (p : ℕ → Bool) (n : ℕ) → total (λ q. cond (p q) 1 0) n ≡ count p n
total_count p zero = refl
total_count p (suc n) = ap (λ m. cond (p n) 1 0 + m) (total_count p n)

-- how many assignments of k values pass a test
sum : ℕ → (Assignment → Bool) → ℕ
sum zero p = cond (p []) 1 0
sum (suc k) p = total (λ q. sum k (λ a. p (value_at q ∷ a))) 1024

sum_ext : (k : ℕ) (p q : Assignment → Bool) → ((a : Assignment) → length a ≡ k → p a ≡ q a) → sum k p ≡ sum k q
unfolding sum
sum_ext zero p q f = ap (λ (b : Bool). cond b 1 0) (f [] refl)
sum_ext (suc k) p q f = total_ext _ _ 1024 (λ m l. sum_ext k (λ a. p (value_at m ∷ a)) (λ a. q (value_at m ∷ a)) (λ a e. f (value_at m ∷ a) (ap suc e)))

sum_none : (k : ℕ) (p : Assignment → Bool) → ((a : Assignment) → length a ≡ k → p a ≡ false) → sum k p ≡ 0
unfolding sum
sum_none zero p f = ap (λ (b : Bool). cond b 1 0) (f [] refl)
sum_none (suc k) p f = total_none _ 1024 (λ m l. sum_none k (λ a. p (value_at m ∷ a)) (λ a e. f (value_at m ∷ a) (ap suc e)))

-- the number of those in a table is the number of all that are in it and pass
number_sum : (k x : ℕ) (t : Table) (p : Assignment → Bool) → number k x t p ≡ sum k (λ a. in_from x t a && p a)
unfolding number sum
number_sum zero x t p = refl
number_sum (suc k) x t p = total_ext _ _ 1024 (λ q l. each (value_at q) (t x (value_at q)) (number_sum k (suc x) t (λ a. p (value_at q ∷ a))))
  where
    each : (v : ℤ) (b : Bool) → number k (suc x) t (λ a. p (v ∷ a)) ≡ sum k (λ a. in_from (suc x) t a && p (v ∷ a)) → cond b (number k (suc x) t (λ a. p (v ∷ a))) 0 ≡ sum k (λ a. (b && in_from (suc x) t a) && p (v ∷ a))
    each v true e = e
    each v false e = sym (sum_none k (λ a. false) (λ a e. refl))

-- the same assignments, as many of them
pub number_same : (k x : ℕ) (t u : Table) (p : Assignment → Bool) → ((a : Assignment) → length a ≡ k → (in_from x t a && p a) ≡ (in_from x u a && p a)) → number k x t p ≡ number k x u p
number_same k x t u p f = number_sum k x t p ∙ sum_ext k _ _ f ∙ sym (number_sum k x u p)

pub number_none : (k x : ℕ) (t : Table) (p : Assignment → Bool) → ((a : Assignment) → length a ≡ k → (in_from x t a && p a) ≡ false) → number k x t p ≡ 0
number_none k x t p f = number_sum k x t p ∙ sum_none k _ f

-- one value in each domain, and a test that passes there: one
pub number_one : (k x : ℕ) (t : Table) (p : Assignment → Bool) → ((y : ℕ) → x ≤ y → y < x + k → size_of (t y) ≡ 1) → ((a : Assignment) → length a ≡ k → in_from x t a ≡ true → p a ≡ true) → number k x t p ≡ 1
unfolding number size_of
number_one zero x t p single f = ap (λ (b : Bool). cond b 1 0) (f [] refl refl)
number_one (suc k) x t p single f =
    total_ext _ (λ q. cond (t x (value_at q)) 1 0) 1024 (λ q l. each (value_at q) (t x (value_at q))
    (λ e. number_one k (suc x) t (λ a. p (value_at q ∷ a)) (λ y l m. single y (omega arith) (omega arith)) (λ a r h. f (value_at q ∷ a) (ap suc r) (and_from (t x (value_at q)) _ e h))))
    ∙ total_count (λ q. t x (value_at q)) 1024
    ∙ single x (omega arith) (omega arith)
  where
    each : (v : ℤ) (b : Bool) → (b ≡ true → number k (suc x) t (λ a. p (v ∷ a)) ≡ 1) → cond b (number k (suc x) t (λ a. p (v ∷ a))) 0 ≡ cond b 1 0
    each v true e = e refl
    each v false e = refl
