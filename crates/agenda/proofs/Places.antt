-- The places of a ring of 256.
use Rattle.std.proofs.Common.{◌≡◌, ℕ, zero, suc, ◌+◌, ◌-◌, ◌%◌, ◌<◌, ◌≢◌, List, [], ◌∷◌, ◌++◌, length, get_or, set, refl, ap, ◌∙◌, ap₂, add-one, arith}
use Rattle.std.proofs.lemmas.List.{get_or-set_same, get_or-set_other}
use Rattle.agenda.specs.Rings.{queue}

-- the same numbers at the same distances
pub queue_same : (r s : List ℕ) (a b n : ℕ) → ((j : ℕ) → j < n → get_or r ((a + j) % 256) 0 ≡ get_or s ((b + j) % 256) 0) → queue r a n ≡ queue s b n
queue_same r s a b zero f = refl
queue_same r s a b (suc n) f =
    ap₂ (λ (x : ℕ) (xs : List ℕ). x ∷ xs)
    (ap (λ i. get_or r (i % 256) 0) (let e : a ≡ a + 0 = omega arith in e) ∙ f 0 (omega arith) ∙ ap (λ i. get_or s (i % 256) 0) (let e : b + 0 ≡ b = omega arith in e))
    (queue_same r s (a + 1) (b + 1) n (λ j h. ap (λ i. get_or r (i % 256) 0) (let e : (a + 1) + j ≡ a + suc j = omega arith in e) ∙ f (suc j) (omega arith) ∙ ap (λ i. get_or s (i % 256) 0) (let e : b + suc j ≡ (b + 1) + j = omega arith in e)))

-- the last apart from the others
pub queue_last : (r : List ℕ) (a n : ℕ) → queue r a (suc n) ≡ queue r a n ++ get_or r ((a + n) % 256) 0 ∷ []
queue_last r a zero = ap (λ i. get_or r (i % 256) 0 ∷ []) (let e : a ≡ a + 0 = omega arith in e)
queue_last r a (suc n) =
    ap (λ (xs : List ℕ). get_or r (a % 256) 0 ∷ xs)
    (queue_last r (a + 1) n ∙ ap (λ i. queue r (a + 1) n ++ get_or r (i % 256) 0 ∷ []) (let e : (a + 1) + n ≡ a + suc n = omega arith in e))

-- a number written behind the last
pub pushed : (r : List ℕ) (a n x : ℕ) → length r ≡ 256 → n < 256 → queue (set r ((a + n) % 256) x) a (n + 1) ≡ queue r a n ++ x ∷ []
pushed r a n x l h =
    ap (queue (set r ((a + n) % 256) x) a) (add-one n)
    ∙ queue_last (set r ((a + n) % 256) x) a n
    ∙ ap₂ (λ (xs : List ℕ) (y : ℕ). xs ++ y ∷ [])
    (queue_same (set r ((a + n) % 256) x) r a a n (λ j k. let ne : (a + j) % 256 ≢ (a + n) % 256 = λ e. omega arith in get_or-set_other r ((a + n) % 256) ((a + j) % 256) x 0 ne))
    (get_or-set_same r ((a + n) % 256) x 0 (omega arith))

-- the first apart from the others
pub popped : (r : List ℕ) (a n : ℕ) → a < 256 → 0 < n → queue r a n ≡ get_or r a 0 ∷ queue r ((a + 1) % 256) (n - 1)
popped r a zero h k = absurd (omega arith)
popped r a (suc m) h k =
    ap₂ (λ (x : ℕ) (xs : List ℕ). x ∷ xs)
    (ap (λ i. get_or r i 0) (let e : a % 256 ≡ a = omega arith in e))
    (queue_same r r (a + 1) ((a + 1) % 256) m (λ j l. ap (λ i. get_or r i 0) (let e : ((a + 1) + j) % 256 ≡ ((a + 1) % 256 + j) % 256 = omega arith in e))
    ∙ ap (queue r ((a + 1) % 256)) (let e : m ≡ suc m - 1 = omega arith in e))
