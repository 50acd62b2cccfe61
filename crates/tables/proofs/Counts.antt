-- Counts over the numbers below a bound, and the sizes of domains.
use Rattle.std.proofs.lemmas.List.{get_or_past, take_all}
use Rattle.std.proofs.lemmas.List.Sums.{sum_by_push}
use Rattle.std.proofs.Math.Seq.{take-suc}
use Rattle.std.specs.List.{sum_by}
use Rattle.std.proofs.Common.{length, take, ◌≡◌, ℕ, zero, suc, ◌+◌, ◌*◌, ◌^◌, ◌<◌, ◌≤◌, Bool, true, false, cond, List, get_or, ℤ, sym, refl, ap, ◌∙◌, subst, ap₂, ⊎_elim, add-zero, add-suc, mod-eq_of_lt, arith}
use lib.Count.{ones}
use Rattle.std.proofs.lemmas.Bool.{both_ways, cases_lt}
use Rattle.tables.specs.Values.{is_value, place, value_at}
use Rattle.tables.specs.Rows.{bit, at_place, in_row}
use Rattle.tables.specs.Tables.{Domain, count, size_of}
use Rattle.tables.proofs.Words.{count_bits}
use Rattle.tables.proofs.Places.{at_word, in_row_at, is_value_at, value_at_place, place_below}

one_le : (b : Bool) → cond b 1 0 ≤ 1
one_le true = omega arith
one_le false = omega arith

pub count_le : (p : ℕ → Bool) (n : ℕ) → count p n ≤ n
count_le p zero = omega arith
count_le p (suc n) = let h = count_le p n in let o = one_le (p n) in omega arith

pub count_ext : (p q : ℕ → Bool) (n : ℕ) → ((k : ℕ) → k < n → p k ≡ q k) → count p n ≡ count q n
count_ext p q zero f = refl
count_ext p q (suc n) f = ap₂ (λ (b : Bool) (c : ℕ). cond b 1 0 + c) (f n (omega arith)) (count_ext p q n (λ k h. f k (omega arith)))

pub count_add : (p : ℕ → Bool) (a b : ℕ) → count p (a + b) ≡ count p a + count (λ k. p (a + k)) b
count_add p a zero = ap (count p) (add-zero a) ∙ sym (add-zero (count p a))
count_add p a (suc b) =
    let ih = count_add p a b in
    ap (count p) (add-suc a b) ∙ (let e : cond (p (a + b)) 1 0 + count p (a + b) ≡ count p a + (cond (p (a + b)) 1 0 + count (λ k. p (a + k)) b) = omega arith in e)

pub count_none : (p : ℕ → Bool) (n : ℕ) → ((k : ℕ) → k < n → p k ≡ false) → count p n ≡ 0
count_none p zero f = refl
count_none p (suc n) f = ap₂ (λ (b : Bool) (c : ℕ). cond b 1 0 + c) (f n (omega arith)) (count_none p n (λ k h. f k (omega arith)))

implies_le : (a b : Bool) → (a ≡ true → b ≡ true) → cond a 1 0 ≤ cond b 1 0
implies_le false b f = omega arith
implies_le true b f = subst (λ (t : Bool). 1 ≤ cond t 1 0) (sym (f refl)) (omega arith)

pub count_mono : (p q : ℕ → Bool) (n : ℕ) → ((k : ℕ) → k < n → p k ≡ true → q k ≡ true) → count p n ≤ count q n
count_mono p q zero f = omega arith
count_mono p q (suc n) f =
    let here = implies_le (p n) (q n) (f n (omega arith)) in
    let below = count_mono p q n (λ k h. f k (omega arith)) in
    omega arith

-- one that passes is lost
pub count_less : (p q : ℕ → Bool) (n : ℕ) → ((k : ℕ) → k < n → p k ≡ true → q k ≡ true) → (m : ℕ) → m < n → q m ≡ true → p m ≡ false → count p n < count q n
count_less p q zero f m h a b = absurd (omega arith)
count_less p q (suc n) f m h a b =
    ⊎_elim
    (λ l. let here = implies_le (p n) (q n) (f n (omega arith)) in let below = count_less p q n (λ k h. f k (omega arith)) m l a b in omega arith)
    (λ g.
    let e : m ≡ n = omega arith in
    let none : ◌≡◌ {A = ℕ} (cond (p n) 1 0) 0 = ap (λ (t : Bool). cond t 1 0) (subst (λ i. p i ≡ false) e b) in
    let one : ◌≡◌ {A = ℕ} (cond (q n) 1 0) 1 = ap (λ (t : Bool). cond t 1 0) (subst (λ i. q i ≡ true) e a) in
    let below = count_mono p q n (λ k h. f k (omega arith)) in
    omega arith)
    (cases_lt m n)

-- ---- the sizes of domains

-- where the domains are the same at each value
pub size_ext : (d e : Domain) → ((v : ℤ) → is_value v ≡ true → d v ≡ e v) → size_of d ≡ size_of e
unfolding size_of
size_ext d e f = count_ext (λ p. d (value_at p)) (λ p. e (value_at p)) 1024 (λ k h. f (value_at k) (is_value_at k h))

pub size_none : (d : Domain) → ((v : ℤ) → is_value v ≡ true → d v ≡ false) → size_of d ≡ 0
unfolding size_of
size_none d f = count_none (λ p. d (value_at p)) 1024 (λ k h. f (value_at k) (is_value_at k h))

-- a value of e that d has lost
pub size_less : (d e : Domain) → ((v : ℤ) → d v ≡ true → e v ≡ true) → (v : ℤ) → is_value v ≡ true → e v ≡ true → d v ≡ false → size_of d < size_of e
unfolding size_of
size_less d e f v h a b =
    let back = sym (value_at_place v h) in
    count_less (λ p. d (value_at p)) (λ p. e (value_at p)) 1024 (λ k l. f (value_at k)) (place v) (place_below v h) (subst (λ u. e u ≡ true) back a) (subst (λ u. d u ≡ false) back b)

-- a domain with a value is not empty
pub size_some : (d : Domain) (v : ℤ) → is_value v ≡ true → d v ≡ true → 0 < size_of d
size_some d v h a = let l = size_less (λ _. false) d (λ u e. absurd (both_ways false refl e)) v h a refl in let z = size_none (λ _. false) (λ u e. refl) in omega arith

-- ---- the size of a row, word by word

pub count_word : (row : List ℕ) (j : ℕ) → get_or row j 0 < 2 ^ 64 → count (at_place row) (64 * j + 64) ≡ count (at_place row) (64 * j) + ones (get_or row j 0)
count_word row j h =
    count_add (at_place row) (64 * j) 64
    ∙ ap (λ n. count (at_place row) (64 * j) + n)
    (count_ext (λ k. at_place row (64 * j + k)) (bit (get_or row j 0)) 64 (at_word row j)
    ∙ count_bits (get_or row j 0) 64 ∙ ap ones (mod-eq_of_lt h))

-- words past the end are 0, and have none
count_words : (row : List ℕ) → ((i : ℕ) → get_or row i 0 < 2 ^ 64) → (n : ℕ) → sum_by (λ w. ones w) (take n row) ≡ count (at_place row) (64 * n)
unfolding ones
count_words row fits zero = refl
count_words row fits (suc n) =
    let e : 64 * suc n ≡ 64 * n + 64 = omega arith in
    one_more ∙ ap (λ m. m + ones (get_or row n 0)) (count_words row fits n) ∙ sym (ap (count (at_place row)) e ∙ count_word row n (fits n))
  where
    one_more : sum_by (λ w. ones w) (take (suc n) row) ≡ sum_by (λ w. ones w) (take n row) + ones (get_or row n 0)
    one_more =
        ⊎_elim
        (λ l. ap (sum_by (λ w. ones w)) (take-suc row n 0 l) ∙ sum_by_push (λ w. ones w) (take n row) (get_or row n 0))
        (λ l.
        let s : take (suc n) row ≡ take n row = take_all (suc n) row (omega arith) ∙ sym (take_all n row l) in
        let z : ◌≡◌ {A = ℕ} (ones (get_or row n 0)) 0 = ap ones (get_or_past row n 0 l) in
        ap (sum_by (λ w. ones w)) s ∙ omega arith)
        (cases_lt n (length row))

-- the first sixteen words say all
pub size_by_words : (row : List ℕ) → ((i : ℕ) → get_or row i 0 < 2 ^ 64) → sum_by (λ w. ones w) (take 16 row) ≡ size_of (in_row row)
unfolding size_of
size_by_words row fits = count_words row fits 16 ∙ sym (count_ext (λ p. in_row row (value_at p)) (at_place row) 1024 (in_row_at row))

pub size_le : (d : Domain) → size_of d ≤ 1024
unfolding size_of
size_le d = count_le (λ p. d (value_at p)) 1024
