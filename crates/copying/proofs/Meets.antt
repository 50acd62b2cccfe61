-- A row that is met with another: which values it then has, and whether it lost one.
use Rattle.std.proofs.Common.{◌≡◌, ℕ, zero, suc, ◌+◌, ◌*◌, ◌/◌, ◌%◌, ◌^◌, ◌<◌, ◌≤◌, Bool, true, false, not, ◌&&◌, eqb, ltb, List, [], ◌∷◌, length, get_or, ℤ, Decides, sym, refl, ap, ◌∙◌, subst, ⊎_elim, lit<, arith}
use lib.Bits.{bit_and, and_zero_l, and_zero_r, and_lt}
use Rattle.std.proofs.Math.Bool.{not-not}
use Rattle.std.proofs.lemmas.Bool.{cases_Bool, and_parts}
use Rattle.std.proofs.lemmas.Bool.Decides.{same_from_decides, Decides-like, Decides-eqb, Decides-ltb, Decides-not}
use Rattle.tables.specs.Values.{is_value, place, value_at}
use Rattle.tables.specs.Rows.{bit, at_place, in_row}
use Rattle.tables.specs.Tables.{size_of}
use Rattle.tables.proofs.Truths.{either}
use Rattle.tables.proofs.Words.{and_bits, bits_same}
use Rattle.tables.proofs.Places.{at_word, in_row_at, is_value_at, place_below}
use Rattle.tables.proofs.Counts.{size_ext, size_none, size_less, size_some}
use Rattle.copying.specs.Memory.{meet}
use Rattle.copying.specs.Facts.{none_in}

pub get_or_meet : (xs ys : List ℕ) (k : ℕ) → get_or (meet xs ys) k 0 ≡ bit_and (get_or xs k 0) (get_or ys k 0)
get_or_meet [] ys k = sym (and_zero_l (get_or ys k 0))
get_or_meet (x ∷ xs) [] k = sym (and_zero_r (get_or (x ∷ xs) k 0))
get_or_meet (x ∷ xs) (y ∷ ys) zero = refl
get_or_meet (x ∷ xs) (y ∷ ys) (suc k) = get_or_meet xs ys k

pub length_meet : (xs ys : List ℕ) → length xs ≤ length ys → length (meet xs ys) ≡ length xs
length_meet [] ys e = refl
length_meet (x ∷ xs) [] e = absurd (omega arith)
length_meet (x ∷ xs) (y ∷ ys) e = ap suc (length_meet xs ys (omega arith))

and_both : (a b d : Bool) → (a && (b && d)) ≡ ((a && b) && (a && d))
and_both true b d = refl
and_both false b d = refl

-- the values that are in both
pub in_meet : (xs ys : List ℕ) (v : ℤ) → in_row (meet xs ys) v ≡ (in_row xs v && in_row ys v)
in_meet xs ys v =
    ap (λ (b : Bool). is_value v && b)
    (ap (λ w. bit w (place v % 64)) (get_or_meet xs ys (place v / 64)) ∙ and_bits (get_or xs (place v / 64) 0) (get_or ys (place v / 64) 0) (place v % 64))
    ∙ and_both (is_value v) (at_place xs (place v)) (at_place ys (place v))

-- the words have the same bits as the values of the row
value_in : (row : List ℕ) (j k : ℕ) → j < 16 → k < 64 → in_row row (value_at (64 * j + k)) ≡ bit (get_or row j 0) k
value_in row j k h l = in_row_at row (64 * j + k) (omega arith) ∙ at_word row j k l

-- each of the first sixteen words fits
abbrev pub Fit : List ℕ → Type 0
Fit xs = (j : ℕ) → j < 16 → get_or xs j 0 < 2 ^ 64

-- the first k words of two rows are the same
abbrev pub Same : ℕ → List ℕ → List ℕ → Type 0
Same k xs ys = (j : ℕ) → j < k → get_or xs j 0 ≡ get_or ys j 0

same_values : (xs ys : List ℕ) → Same 16 xs ys → (v : ℤ) → is_value v ≡ true → in_row xs v ≡ in_row ys v
same_values xs ys same v h = let p = place_below v h in ap (λ w. is_value v && bit w (place v % 64)) (same (place v / 64) (omega arith))

same_words : (xs ys : List ℕ) → Fit xs → Fit ys → ((v : ℤ) → is_value v ≡ true → in_row xs v ≡ in_row ys v) → Same 16 xs ys
same_words xs ys p q same j h =
    bits_same 64 (get_or xs j 0) (get_or ys j 0) (p j h) (q j h)
    (λ k l. sym (value_in xs j k h l) ∙ same (value_at (64 * j + k)) (is_value_at (64 * j + k) (omega arith)) ∙ value_in ys j k h l)

-- the size tells whether each word stayed, and whether each is 0
module _ (xs ys : List ℕ) (p : Fit xs) (q : Fit ys) where
  fewer : (v : ℤ) → in_row (meet xs ys) v ≡ true → in_row xs v ≡ true
  fewer v t = (and_parts (in_row xs v) (in_row ys v) (sym (in_meet xs ys v) ∙ t)).0

  met_fits : Fit (meet xs ys)
  met_fits j h = subst (λ w. w < 2 ^ 64) (sym (get_or_meet xs ys j)) (and_lt 64 (get_or xs j 0) (get_or ys j 0) (p j h) (q j h))

  all_stay : size_of (in_row xs) ≤ size_of (in_row (meet xs ys)) → (v : ℤ) → is_value v ≡ true → in_row (meet xs ys) v ≡ in_row xs v
  all_stay h v value = either (in_row (meet xs ys) v) (in_row xs v) (fewer v) (λ t.
      ⊎_elim (λ yes. yes) (λ no. absurd (omega (arith, size_less (in_row (meet xs ys)) (in_row xs) fewer v value t no))) (cases_Bool (in_row (meet xs ys) v)))

  all_gone : size_of (in_row (meet xs ys)) ≡ 0 → (v : ℤ) → is_value v ≡ true → in_row (meet xs ys) v ≡ in_row [] v
  all_gone h v value =
      ⊎_elim (λ yes. absurd (omega (arith, size_some (in_row (meet xs ys)) v value yes))) (λ no. no ∙ sym (none_in v)) (cases_Bool (in_row (meet xs ys) v))

  pub smaller_is : (smaller : Bool) → Decides (not smaller) (Same 16 (meet xs ys) xs) → smaller ≡ ltb (size_of (in_row (meet xs ys))) (size_of (in_row xs))
  smaller_is smaller d =
      let stays = Decides-like _
      (λ ne. same_words (meet xs ys) xs met_fits p (all_stay (omega arith)))
      (λ same. let e = size_ext (in_row (meet xs ys)) (in_row xs) (same_values (meet xs ys) xs same) in λ l. omega arith)
      (Decides-not _ (Decides-ltb (size_of (in_row (meet xs ys))) (size_of (in_row xs)))) in
      sym (not-not smaller) ∙ ap not (same_from_decides _ _ d stays) ∙ not-not _

  pub empty_is : (empty : Bool) → Decides empty (Same 16 (meet xs ys) []) → empty ≡ eqb (size_of (in_row (meet xs ys))) 0
  empty_is empty d = same_from_decides _ _ d (Decides-like _
      (λ z. same_words (meet xs ys) [] met_fits (λ j h. lit< tt) (all_gone z))
      (λ same. size_none (in_row (meet xs ys)) (λ v h. same_values (meet xs ys) [] same v h ∙ none_in v))
      (Decides-eqb (size_of (in_row (meet xs ys))) 0))
