-- A search word by word: from what `find_map` says of the words to the first or the last place of a row.
use Rattle.std.proofs.Common.{◌≡◌, ℕ, ◌+◌, ◌-◌, ◌*◌, ◌/◌, ◌%◌, ◌^◌, ◌<◌, ◌≤◌, false, List, length, get_or, min, IfSome, IsSomeAnd, MatchOption, Some, None, Option, sym, refl, ap, ◌∙◌, subst, ⊎_elim, arith}
use denote.Ref.{Bor}
use Rattle.std.specs.Option.{option_map}
use Rattle.std.proofs.lemmas.Bool.{cases_lt}
use Rattle.tables.specs.Rows.{bit, at_place, First, Final}
use Rattle.tables.proofs.Words.{bit_below}
use Rattle.tables.proofs.Zeros.{first_shifted}
use Rattle.tables.proofs.Places.{at_word, at_past}

-- What a search goes over has a number and the word of that number: o is word i of a row.
module _ {A : Type 0} (number_of word_of : A → ℕ) where
  pub record Item (row : List ℕ) (i : ℕ) (o : Option A) : Type 0 where
    pub item : A
    pub is : o ≡ Some item
    pub number : number_of item ≡ i
    pub word : word_of item ≡ get_or row i 0

-- a word that comes with its number
pub item_from : (row : List ℕ) (i : ℕ) (o : Option (ℕ × Bor ℕ)) → IfSome o (λ x. x.0 ≡ i) → option_map (λ (y : Bor ℕ). y.now) (option_map (λ x. x.1) o) ≡ Some (get_or row i 0) → Item (λ x. x.0) (λ x. x.1.now) row i o
item_from row i None a e = absurd (cc)
item_from row i (Some x) a e = record { item = x; is = refl; number = a; word = cc }

-- the number alone
pub item_at : (row : List ℕ) (i : ℕ) (o : Option ℕ) → option_map (λ y. y) o ≡ Some i → Item (λ j. j) (λ j. get_or row j 0) row i o
item_at row i None e = absurd (cc)
item_at row i (Some x) e = let same : x ≡ i = cc in record { item = x; is = refl; number = same; word = ap (λ j. get_or row j 0) same }

-- `Finds j w o`: o is what is found in word j, which is w
module _ (row : List ℕ) (Finds : ℕ → ℕ → Option ℕ → Type 0) where
  -- the same of a place in the row, which is r
  abbrev pub FindsPlace : ℕ → ℕ → Option ℕ → Type 0
  FindsPlace j w None = Finds j w None
  FindsPlace j w (Some b) = (k : ℕ) × (b ≡ 64 * j + k) × Finds j w (Some k)

  -- and as `map` makes the place
  abbrev pub Maps : ℕ → ℕ → Option ℕ → Type 0
  Maps j w r = (o : Option ℕ) × Finds j w o × MatchOption o (r ≡ None) (λ k. IsSomeAnd r (λ b. b ≡ 64 * j + k))

  place_from : (j w : ℕ) (o r : Option ℕ) → Finds j w o → MatchOption o (r ≡ None) (λ k. IsSomeAnd r (λ b. b ≡ 64 * j + k)) → FindsPlace j w r
  place_from j w None r f e = subst (FindsPlace j w) (sym e) f
  place_from j w (Some k) None f e = absurd e
  place_from j w (Some k) (Some b) f e = (k, e, f)

  -- what was found in the words, which came as `number` counts them: in none of them all, or in the one at i and in none before it
  abbrev pub Found : (number : ℕ → ℕ) (len : ℕ) (Whole : Type 0) → Option ℕ → Type 0
  Found number len Whole r = MatchOption r
      (Whole × ((k : ℕ) → k < len → FindsPlace (number k) (get_or row (number k) 0) None))
      (λ b. (i : ℕ) × (i < len) × FindsPlace (number i) (get_or row (number i) 0) (Some b) × ((k : ℕ) → k < i → FindsPlace (number k) (get_or row (number k) 0) None))

  module _ {A : Type 0} (number_of word_of : A → ℕ) where
    at_item : (i : ℕ) (o : Option A) (r : Option ℕ) (P : A → Type 0) → Item number_of word_of row i o → IfSome o P → ((x : A) → P x → Maps (number_of x) (word_of x) r) → FindsPlace i (get_or row i 0) r
    at_item i o r P t h says =
        let m = says t.item (subst (λ q. IfSome q P) t.is h) in
        subst (λ w. FindsPlace i w r) t.word (subst (λ j. FindsPlace j (word_of t.item) r) t.number (place_from (number_of t.item) (word_of t.item) m.0 r m.1 m.2))

    if_some : (P : A → Type 0) (o : Option A) → IsSomeAnd o P → IfSome o P
    if_some P None h = tt
    if_some P (Some x) h = h

    pub found : (number : ℕ → ℕ) (len : ℕ) (at : ℕ → Option A) → ((k : ℕ) → k < len → Item number_of word_of row (number k) (at k))
        → (r : Option ℕ) (Whole Keeps : Type 0) (Miss : A → Type 0) (Hit : ℕ → A → Type 0)
        → MatchOption r (Whole × (Keeps → (k : ℕ) → IfSome (at k) Miss)) (λ b. (i : ℕ) × (i < len) × (len ≡ i + 1) × (Keeps → IsSomeAnd (at i) (Hit b) × ((k : ℕ) → k < i → IsSomeAnd (at k) Miss)))
        → Keeps → ((x : A) → Miss x → Maps (number_of x) (word_of x) None) → ((b : ℕ) (x : A) → Hit b x → Maps (number_of x) (word_of x) (Some b)) → Found number len Whole r
    found number len at items None Whole Keeps Miss Hit m keeps miss hit = (m.0, λ k l. at_item (number k) (at k) None Miss (items k l) (m.1 keeps k) miss)
    found number len at items (Some b) Whole Keeps Miss Hit m keeps miss hit =
        let h = m.3 keeps in (
          m.0,
          m.1,
          at_item (number m.0) (at m.0) (Some b) (Hit b) (items m.0 m.1) (if_some (Hit b) (at m.0) h.0) (hit b),
          λ k l. at_item (number k) (at k) None Miss (items k (omega (arith, m.1))) (if_some Miss (at k) (h.1 k l)) miss,
        )

module _ (row : List ℕ) where
  -- what stands in word j stands in the row
  in_word : (j q : ℕ) → q / 64 ≡ j → at_place row q ≡ bit (get_or row j 0) (q - 64 * j)
  in_word j q e = let s : 64 * j + (q - 64 * j) ≡ q = omega arith in ap (at_place row) (sym s) ∙ at_word row j (q - 64 * j) (omega arith)

  none_from : (j q : ℕ) → First (bit (get_or row j 0)) 0 64 None → j ≡ q / 64 → at_place row q ≡ false
  none_from j q none e = in_word j q (sym e) ∙ none (q - 64 * j) (omega arith) (omega arith)

  -- from word s on
  pub First-from_Found : (s len : ℕ) (Whole : Type 0) (r : Option ℕ)
      → ((k : ℕ) → k < len → s + k < 16)
      → (Whole → (k : ℕ) → s + k < 16 → s + k < length row → k < len)
      → Found row (λ j w. First (bit w) 0 64) (λ k. s + k) len Whole r
      → First (at_place row) (64 * s) 1024 r
  First-from_Found s len Whole None few all f = λ q h l.
      ⊎_elim
      (λ (within : q / 64 < length row).
      let k : ℕ = q / 64 - s in
      none_from (s + k) q (f.1 k (all f.0 k (omega arith) (omega arith))) (omega arith))
      (λ past. at_past row q (omega arith))
      (cases_lt (q / 64) (length row))
  First-from_Found s len Whole (Some b) few all f =
      let j : ℕ = s + f.0 in
      let last = few f.0 f.1 in
      let at = f.2 in
      subst (λ n. First (at_place row) (64 * s) 1024 (Some n)) (sym at.1) (
        omega arith,
        omega (arith, at.2.1),
        at_word row j at.0 at.2.1 ∙ at.2.2,
        λ q h l.
            ⊎_elim
            (λ (before : q / 64 < j). let k : ℕ = q / 64 - s in none_from (s + k) q (f.3 k (omega arith)) (omega arith))
            (λ (here : j ≤ q / 64). in_word j q (omega (arith, at.2.1)) ∙ at.2.3 (q - 64 * j) (omega arith) (omega arith))
            (cases_lt (q / 64) j),
      )

  -- a place told from `from` on is one told in its word
  placed : (from : ℕ) (o m : Option ℕ) → MatchOption o (m ≡ None) (λ k. IsSomeAnd m (λ b. b ≡ from + k)) → MatchOption (option_map (λ k. from % 64 + k) o) (m ≡ None) (λ k. IsSomeAnd m (λ b. b ≡ 64 * (from / 64) + k))
  placed from None m e = e
  placed from (Some k) None e = e
  placed from (Some k) (Some b) e = omega arith

  -- first in the word in which `from` lies, and then from the next one on
  First-from_word : (from : ℕ) (o m r : Option ℕ)
      → from / 64 < 16
      → First (bit (get_or row (from / 64) 0)) (from % 64) 64 o
      → MatchOption o (m ≡ None) (λ k. IsSomeAnd m (λ b. b ≡ 64 * (from / 64) + k))
      → (m ≡ None → First (at_place row) (64 * (from / 64 + 1)) 1024 r)
      → ((b : ℕ) → m ≡ Some b → r ≡ Some b)
      → First (at_place row) from 1024 r
  First-from_word from None m r few f e rest here = behind r (rest e)
    where
      word : (q : ℕ) → from ≤ q → q < 64 * (from / 64 + 1) → at_place row q ≡ false
      word q h l = in_word (from / 64) q (omega arith) ∙ f (q - 64 * (from / 64)) (omega arith) (omega arith)

      before : (q : ℕ) → from ≤ q → (64 * (from / 64 + 1) ≤ q → at_place row q ≡ false) → at_place row q ≡ false
      before q h past = ⊎_elim (λ l. word q h l) past (cases_lt q (64 * (from / 64 + 1)))

      behind : (r : Option ℕ) → First (at_place row) (64 * (from / 64 + 1)) 1024 r → First (at_place row) from 1024 r
      behind None g = λ q h l. before q h (λ p. g q p l)
      behind (Some b) g = (omega (arith, g.0), g.1, g.2, λ q h l. before q h (λ p. g.3 q p l))
  First-from_word from (Some k) None r few f e rest here = absurd e
  First-from_word from (Some k) (Some b) r few f e rest here =
      subst (First (at_place row) from 1024) (sym (here b refl ∙ ap Some e)) (
        omega (arith, f.0),
        omega (arith, f.1),
        at_word row (from / 64) k f.1 ∙ f.2,
        λ q h l. in_word (from / 64) q (omega (arith, f.1)) ∙ f.3 (q - 64 * (from / 64)) (omega arith) (omega arith),
      )

  -- the same where that word is shifted by f
  pub First-from_shifted : (from f : ℕ) (o m r : Option ℕ)
      → from / 64 < 16
      → get_or row (from / 64) 0 < 2 ^ 64
      → First (bit (get_or row (from / 64) 0 / 2 ^ f)) 0 64 o
      → f ≡ from % 64
      → MatchOption o (m ≡ None) (λ k. IsSomeAnd m (λ b. b ≡ from + k))
      → (m ≡ None → First (at_place row) (64 * (from / 64 + 1)) 1024 r)
      → ((b : ℕ) → m ≡ Some b → r ≡ Some b)
      → First (at_place row) from 1024 r
  First-from_shifted from f o m r few fits found is e rest here =
      let at = rw is at (first_shifted (get_or row (from / 64) 0) f fits o found) in
      First-from_word from (option_map (λ k. from % 64 + k) o) m r few at (placed from o m e) rest here

  none_below : (end j q : ℕ) → Final (bit (get_or row j 0)) (end - 64 * j) None → j ≡ q / 64 → q < end → at_place row q ≡ false
  none_below end j q none e l = in_word j q (sym e) ∙ none (q - 64 * j) (omega arith)

  -- back from the word in which `end` lies, or from the last word
  pub Final-from_Found : (end count len : ℕ) (Whole : Type 0) (r : Option ℕ)
      → ((j : ℕ) → get_or row j 0 < 2 ^ 64)
      → end ≤ 1024
      → count ≡ min (min (length row) 16) (end / 64 + 1)
      → len ≤ count
      → (Whole → len ≡ count)
      → Found row (λ j w. Final (bit w) (end - 64 * j)) (λ k. count - 1 - k) len Whole r
      → Final (at_place row) end r
  Final-from_Found end count len Whole None fits small c few all f = λ q l.
      ⊎_elim
      (λ (within : q / 64 < count).
      let k : ℕ = count - 1 - q / 64 in
      let whole = all f.0 in
      none_below end (count - 1 - k) q (f.1 k (omega arith)) (omega arith) l)
      (λ (past : count ≤ q / 64). at_past row q (omega arith))
      (cases_lt (q / 64) count)
  Final-from_Found end count len Whole (Some b) fits small c few all f =
      let j : ℕ = count - 1 - f.0 in
      let at = f.2 in
      let low : at.0 < 64 = bit_below 64 (get_or row j 0) at.0 (fits j) at.2.1 in
      subst (λ n. Final (at_place row) end (Some n)) (sym at.1) (
        omega (arith, at.2.0),
        at_word row j at.0 low ∙ at.2.1,
        λ q h l.
            ⊎_elim
            (λ (above : j < q / 64).
            ⊎_elim
            (λ (within : q / 64 < count). let k : ℕ = count - 1 - q / 64 in none_below end (count - 1 - k) q (f.3 k (omega arith)) (omega arith) l)
            (λ (past : count ≤ q / 64). at_past row q (omega arith))
            (cases_lt (q / 64) count))
            (λ (here : q / 64 ≤ j). in_word j q (omega arith) ∙ at.2.2 (q - 64 * j) (omega arith) (omega arith))
            (cases_lt j (q / 64)),
      )
