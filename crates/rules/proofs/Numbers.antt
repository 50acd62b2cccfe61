-- Sets of numbers below 256 by their words.
use Rattle.std.proofs.Common.{◌≡◌, ℕ, zero, suc, ◌-◌, ◌/◌, ◌%◌, ◌^◌, ◌<◌, ◌≤◌, min, Bool, true, false, cond, not, ◌&&◌, ◌||◌, ltb, leb, List, [], ◌∷◌, length, get_or, set, sym, refl, ap, ◌∙◌, subst, ap₂, ⊎_elim, arith}
use lib.Bits.{bit_and}
use Rattle.std.proofs.lemmas.List.{get_or_past}
use Rattle.std.proofs.lemmas.Bool.{cases_lt, leb-true, lt-ltb, le-ltb, and_left, and_right, or_right}
use Rattle.tables.specs.Rows.{bit}
use Rattle.tables.proofs.Words.{and_bits, bit_not, bit_zero}
use Rattle.tables.proofs.Places.{at_past}
use Rattle.rules.specs.Rules.{Rule}
use Rattle.rules.specs.Banks.{in_set, some, nobody, count_of, called, woken}

-- nothing from 256 on
pub set_past : (s : List ℕ) → length s ≡ 4 → (k : ℕ) → 256 ≤ k → in_set s k ≡ false
set_past s l k h = at_past s k (omega arith)

pub nothing_in : (k : ℕ) → in_set (0 ∷ 0 ∷ 0 ∷ 0 ∷ []) k ≡ false
nothing_in k = words (k / 64) (k % 64)
  where
    words : (j b : ℕ) → bit (get_or (0 ∷ 0 ∷ 0 ∷ 0 ∷ []) j 0) b ≡ false
    words zero b = bit_zero b
    words (suc zero) b = bit_zero b
    words (suc (suc zero)) b = bit_zero b
    words (suc (suc (suc zero))) b = bit_zero b
    words (suc (suc (suc (suc j)))) b = bit_zero b

-- one word without another's bits
pub word_minus : (a b k : ℕ) → k < 64 → b < 2 ^ 64 → bit (bit_and a (2 ^ 64 - 1 - b)) k ≡ (bit a k && not (bit b k))
word_minus a b k h l = and_bits a (2 ^ 64 - 1 - b) k ∙ ap (λ (c : Bool). bit a k && c) (bit_not 64 b k h l)

-- four words, each without the bits of another
pub set_minus : (a b r : List ℕ) → length a ≡ 4 → length r ≡ 4 → ((i : ℕ) → i < 4 → (k : ℕ) → k < 64 → bit (get_or r i 0) k ≡ (bit (get_or a i 0) k && not (bit (get_or b i 0) k))) → (j : ℕ) → in_set r j ≡ (in_set a j && not (in_set b j))
set_minus a b r la lr words j =
    ⊎_elim (λ low. words (j / 64) low (j % 64) (omega arith)) (λ high. set_past r lr j (omega arith) ∙ sym (and_left (in_set a j) (not (in_set b j)) (set_past a la j (omega arith)))) (cases_lt (j / 64) 4)

-- none below a bound passes
pub some_none : (p : ℕ → Bool) (n : ℕ) → ((k : ℕ) → k < n → p k ≡ false) → some p n ≡ false
some_none p zero f = refl
some_none p (suc n) f = ap₂ (λ (a b : Bool). a || b) (f n (omega arith)) (some_none p n (λ k h. f k (omega arith)))

-- one below a bound passes
pub some_one : (p : ℕ → Bool) (n k : ℕ) → k < n → p k ≡ true → some p n ≡ true
some_one p zero k h e = absurd (omega arith)
some_one p (suc n) k h e = ⊎_elim (λ low. ap (λ (b : Bool). p n || b) (some_one p n k low e) ∙ or_right (p n) true refl) (λ high. let q : k ≡ n = omega arith in ap (λ (b : Bool). b || some p n) (subst (λ m. p m ≡ true) q e)) (cases_lt k n)

-- a rule that watches a changed variable is woken
pub woken_one : (rules : List Rule) (s : ℕ → Bool) (i x : ℕ) → x < 256 → s x ≡ true → (called rules i).watches x ≡ true → woken rules s i ≡ true
unfolding woken
woken_one rules s i x h a b = some_one (λ x. s x && (called rules i).watches x) 256 x h (ap₂ (λ (a b : Bool). a && b) a b)

pub woken_none : (rules : List Rule) (s : ℕ → Bool) (i : ℕ) → ((x : ℕ) → x < 256 → (s x && (called rules i).watches x) ≡ false) → woken rules s i ≡ false
unfolding woken
woken_none rules s i f = some_none (λ x. s x && (called rules i).watches x) 256 f

-- past the last rule there is nobody
pub called_past : (rules : List Rule) (i : ℕ) → count_of rules ≤ i → called rules i ≡ nobody
called_past rules i h = cases (leb (length rules) 256) refl
  where
    cases : (q : Bool) → leb (length rules) 256 ≡ q → called rules i ≡ nobody
    cases true e = ap (λ (b : Bool). cond b (get_or rules i nobody) nobody) e ∙ get_or_past rules i nobody (subst (λ (b : Bool). cond b (length rules) 257 ≤ i) e h)
    cases false e = ap (λ (b : Bool). cond b (get_or rules i nobody) nobody) e

-- in a bank of more than 256 nobody is called
pub called_many : (rules : List Rule) (i : ℕ) → 256 < count_of rules → called rules i ≡ nobody
called_many rules i h = cases (leb (length rules) 256) refl
  where
    cases : (q : Bool) → leb (length rules) 256 ≡ q → called rules i ≡ nobody
    cases true e = let l = leb-true (length rules) 256 e in absurd (omega (arith, subst (λ (b : Bool). 256 < cond b (length rules) 257) e h))
    cases false e = ap (λ (b : Bool). cond b (get_or rules i nobody) nobody) e

pub woken_nobody : (rules : List Rule) (s : ℕ → Bool) (i : ℕ) → called rules i ≡ nobody → woken rules s i ≡ false
woken_nobody rules s i e = woken_none rules s i (λ x h. ap (λ (r : Rule). s x && r.watches x) e ∙ and_right (s x) false refl)

-- all rules were asked: those below m, which is the number of rules or 256
pub woken_all : (rules : List Rule) (s : ℕ → Bool) (set : List ℕ) (m : ℕ) → ((i : ℕ) → in_set set i ≡ (ltb i m && woken rules s i)) → min (count_of rules) 256 ≤ m → (i : ℕ) → in_set set i ≡ woken rules s i
woken_all rules s set m inv h i =
    ⊎_elim
    (λ low. inv i ∙ ap (λ (b : Bool). b && woken rules s i) (lt-ltb i m low))
    (λ high. inv i ∙ ap (λ (b : Bool). b && woken rules s i) (le-ltb i m high) ∙ sym (woken_nobody rules s i
    (⊎_elim (λ many. called_many rules i many) (λ few. called_past rules i (omega arith)) (cases_lt 256 (count_of rules)))))
    (cases_lt i m)
