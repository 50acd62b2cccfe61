-- The words after a keep.
use Rattle.std.proofs.Common.{◌≡◌, ℕ, ◌+◌, ◌*◌, ◌^◌, ◌<◌, ◌≤◌, Bool, true, false, not, ◌&&◌, ◌||◌, eqb, ◌⊎◌, List, [], ◌++◌, length, get_or, take, drop, set, ℤ, Decides, sym, refl, zero-add, append-nil, ap, ◌∙◌, subst, ap₂, inl, inr, ⊎_elim, below_more, arith}
use mathlib.Core.Path.{fun_ext}
use lib.Bits.{bit_and}
use borrow.Rule.Slice.PartMut.{put_mid}
use Rattle.std.proofs.Math.Bool.{not-not}
use Rattle.std.proofs.lemmas.List.{length-take, length-drop, take_all, drop_all}
use Rattle.std.proofs.lemmas.List.Edits.{paste_more, paste_all}
use Rattle.std.proofs.lemmas.Slice.{put_mid-paste}
use Rattle.std.proofs.lemmas.Bool.{cases_lt, cases_eq}
use Rattle.std.proofs.lemmas.Bool.Decides.{Decides-at, Decides-like, Decides-and, Decides-eqb}
use Rattle.std.proofs.lemmas.Grind.{common_steps}
use Rattle.tables.specs.Rows.{in_row}
use Rattle.tables.specs.Tables.{Domain, kept}
use Rattle.tables.specs.declared.kept.Kept.{Kept}
use Rattle.tables.specs.Stores.{answer_keep}
use Rattle.tables.proofs.Keeps.{kept_here, kept_beside, kept_is}
use Rattle.copying.specs.Memory.{need, row_in, table_in, saved_in, written, meet, frame_in}
use Rattle.copying.proofs.Blocks.{row_below, row_past, saved_ext, row_beside, row_inside, drop_written, row_room, row_apart}
use Rattle.copying.proofs.Meets.{Fit, Same, get_or_meet, length_meet, in_meet, smaller_is, empty_is}

-- a row's words with the first k of them met
abbrev pub met : ℕ → List ℕ → List ℕ → List ℕ
met k xs row = take k (meet xs row) ++ drop k xs

-- what a loop that has met the first k words of xs with the row's has made of them, and knows of them
pub record Met (k : ℕ) (xs row us : List ℕ) (smaller empty : Bool) : Type 0 where
  pub words : us ≡ met k xs row
  -- each is what it was
  pub same : Decides (not smaller) (Same k (meet xs row) xs)
  -- each is 0
  pub none : Decides empty (Same k (meet xs row) [])
  pub fits : (j : ℕ) → j < k → get_or xs j 0 < 2 ^ 64

-- one more word is asked
same_more : (b : Bool) (k : ℕ) (xs ys : List ℕ) → Decides b (Same k xs ys) → Decides (b && eqb (get_or xs k 0) (get_or ys k 0)) (Same (k + 1) xs ys)
same_more b k xs ys d =
    Decides-like _ (λ h. below_more (λ j. get_or xs j 0 ≡ get_or ys j 0) k h.0 h.1) (λ h. (λ j l. h j (omega arith), h k (omega arith)))
    (Decides-and b _ d (Decides-eqb (get_or xs k 0) (get_or ys k 0)))

neither : (a b : Bool) → not (a || not b) ≡ (not a && b)
neither true b = refl
neither false b = not-not b

-- one more word is met
pub met_more : (k : ℕ) (xs row us : List ℕ) (smaller empty : Bool) → k < length xs → length xs ≤ length row → get_or us k 0 < 2 ^ 64 → Met k xs row us smaller empty
    → let w : ℕ = bit_and (get_or us k 0) (get_or row k 0) in
    Met (k + 1) xs row (set us k w) (smaller || not (eqb w (get_or us k 0))) (empty && eqb w 0)
met_more k xs row us smaller empty h l fit m =
    let e = length_meet xs row l in
    let before : get_or us k 0 ≡ get_or xs k 0 = ap (λ us. get_or us k 0) m.words ∙ grind (arith, common_steps) in
    let after : bit_and (get_or us k 0) (get_or row k 0) ≡ get_or (meet xs row) k 0 = ap (λ w. bit_and w (get_or row k 0)) before ∙ sym (get_or_meet xs row k) in
    record {
      words = ap₂ (λ us w. set us k w) m.words after ∙ simp zero-add at (paste_more xs 0 (meet xs row) k 0 (omega arith) (omega arith));
      same = Decides-at _ _ (neither smaller _ ∙ ap₂ (λ w v. not smaller && eqb w v) after before) (same_more (not smaller) k (meet xs row) xs m.same);
      none = Decides-at _ _ (ap (λ w. empty && eqb w 0) after) (same_more empty k (meet xs row) [] m.none);
      fits = below_more _ _ m.fits (subst (λ w. w < 2 ^ 64) before fit);
    }

-- the words after a keep of a row at x
abbrev pub met_words : ℕ → List ℕ → List ℕ → List ℕ
met_words x row ws = written (16 * x) (meet (row_in (16 * x) ws) row) ws

length_row : (p : ℕ) (ws : List ℕ) → p + 16 ≤ length ws → length (row_in p ws) ≡ 16
length_row p ws h = simp (length-take, length-drop) (omega arith)

module _ (n most x : ℕ) (ws row : List ℕ) (below : x < n) (room : need n most ≤ length ws) (wide : length row ≡ 16) where
  pub fit : 16 * x + 16 ≤ length ws
  fit = omega (arith, row_room n 0 most x (omega arith) below)

  block : length (meet (row_in (16 * x) ws) row) ≡ 16
  block = let l = length_row (16 * x) ws fit in length_meet (row_in (16 * x) ws) row (omega arith) ∙ l

  over : 16 * x + length (meet (row_in (16 * x) ws) row) ≤ length ws
  over = omega (arith, fit, block)

  -- the loop's part of the words is the row of x, and it has met all of it
  pub met_row : (p m k : ℕ) (us : List ℕ) (smaller empty : Bool) → p ≡ 16 * x → m ≡ 16 → k ≡ 16 → Met k (take m (drop p ws)) row us smaller empty → Met 16 (row_in (16 * x) ws) row us smaller empty
  met_row p m k us smaller empty e f g h = rw (e, f, g) at h

  -- the words with the row's put back, once all of it is met
  pub is_narrowed : (us : List ℕ) → us ≡ met 16 (row_in (16 * x) ws) row → put_mid (16 * x) 16 ws us ≡ met_words x row ws
  is_narrowed us e =
      let m = meet (row_in (16 * x) ws) row in
      let b = block in
      let l = length_row (16 * x) ws fit in
      let all : met 16 (row_in (16 * x) ws) row ≡ m = simp (take_all 16 m (omega arith), drop_all 16 (row_in (16 * x) ws) (omega arith), append-nil) in
      put_mid-paste (16 * x) 16 ws us m (length m) (e ∙ all) (omega arith) refl ∙ paste_all ws (16 * x) m (length m) refl

  row_here : row_in (16 * x) (met_words x row ws) ≡ meet (row_in (16 * x) ws) row
  row_here =
      let b = block in
      let z : 16 * x + 0 ≡ 16 * x = omega arith in
      ap (λ p. row_in p (met_words x row ws)) (sym z)
      ∙ row_inside (16 * x) (meet (row_in (16 * x) ws) row) ws 0 over (omega arith)
      ∙ take_all 16 (meet (row_in (16 * x) ws) row) (omega arith)

  row_there : (p : ℕ) → p + 16 ≤ length ws → (p + 16 ≤ 16 * x) ⊎ (16 * x + 16 ≤ p) → row_in p (met_words x row ws) ≡ row_in p ws
  row_there p h side = let b = block in row_beside (16 * x) (meet (row_in (16 * x) ws) row) ws p over h (⊎_elim (λ l. inl l) (λ g. inr (omega arith)) side)

  -- the domain of x in any words
  domain : (us : List ℕ) → table_in n 0 us x ≡ in_row (row_in (16 * x) us)
  domain us = let p : 16 * (n * 0 + x) ≡ 16 * x = omega arith in ap in_row (row_below n 0 x us below ∙ ap (λ p. row_in p us) p)

  domain_here : table_in n 0 (met_words x row ws) x ≡ in_row (meet (row_in (16 * x) ws) row)
  domain_here = domain (met_words x row ws) ∙ ap in_row row_here

  pub keeps_table : table_in n 0 (met_words x row ws) ≡ kept x row (table_in n 0 ws)
  keeps_table =
      fun_ext (λ y. fun_ext (λ v.
      ⊎_elim
      (λ (e : y ≡ x).
      ap (λ i. table_in n 0 (met_words x row ws) i v) e
      ∙ ap (λ (d : Domain). d v) domain_here
      ∙ in_meet (row_in (16 * x) ws) row v
      ∙ ap (λ (b : Bool). b && in_row row v) (ap (λ (d : Domain). d v) (sym (domain ws)) ∙ ap (λ i. table_in n 0 ws i v) (sym e))
      ∙ sym (kept_here x row (table_in n 0 ws) y v e))
      (λ ne. other y v ne (cases_lt y n) ∙ sym (kept_beside x row (table_in n 0 ws) y v ne))
      (cases_eq y x)))
    where
      other : (y : ℕ) (v : ℤ) → (y ≡ x → ⊥) → (y < n) ⊎ (n ≤ y) → table_in n 0 (met_words x row ws) y v ≡ table_in n 0 ws y v
      other y v ne (inl l) =
          ap (λ r. in_row r v)
          (row_below n 0 y (met_words x row ws) l
          ∙ row_there (16 * (n * 0 + y)) (omega (arith, row_room n 0 most y (omega arith) l)) (⊎_elim (λ u. inl (omega arith)) (λ u. inr (omega (arith, ne))) (cases_lt y x))
          ∙ sym (row_below n 0 y ws l))
      other y v ne (inr l) = ap (λ r. in_row r v) (row_past n 0 y (met_words x row ws) l ∙ sym (row_past n 0 y ws l))

  pub keeps_saved : (depth : ℕ) → depth ≤ most → saved_in n depth (met_words x row ws) ≡ saved_in n depth ws
  keeps_saved depth h =
      saved_ext n depth (met_words x row ws) ws (λ b y p q l.
      row_there (16 * (n * b + y)) (omega (arith, row_room n b most y (omega arith) l)) (inr (row_apart n b x y p below)))

  keeps_spare : drop (need n most) (met_words x row ws) ≡ drop (need n most) ws
  keeps_spare = drop_written (16 * x) (meet (row_in (16 * x) ws) row) ws (need n most) over (omega (arith, block, row_room n 0 most x (omega arith) below))

  pub keeps_frame : (name : ℕ) → frame_in n most name (met_words x row ws) ≡ frame_in n most name ws
  keeps_frame name = let s = keeps_spare in cc

  -- the answer says what became of the domain
  pub answered : (us : List ℕ) (smaller empty : Bool) → Fit row → Met 16 (row_in (16 * x) ws) row us smaller empty → ◌≡◌ {A = Kept} (record { smaller = smaller; empty = empty }) (answer_keep (table_in n 0 ws x) (table_in n 0 (met_words x row ws) x))
  answered us smaller empty q m =
      let xs = row_in (16 * x) ws in
      kept_is _ _ (smaller_is xs row m.fits q smaller m.same) (empty_is xs row m.fits q empty m.none) ∙ ap₂ answer_keep (sym (domain ws)) (sym domain_here)
