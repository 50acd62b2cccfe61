-- A block of words that is copied from one place to another.
use Rattle.std.proofs.Common.{◌≡◌, ℕ, ◌+◌, ◌-◌, ◌*◌, ◌<◌, ◌≤◌, ◌⊎◌, List, ◌∷◌, length, take, drop, sym, refl, subst, add-one, ap, ◌∙◌, inl, inr, ⊎_elim, mul-add, arith, rules}
use Rattle.std.proofs.lemmas.Nat.{mul-le}
use Rattle.std.proofs.lemmas.List.{places, length-take, length-drop}
use Rattle.std.proofs.lemmas.Bool.{cases_lt}
use Rattle.copying.specs.Memory.{need, row_in, table_in, saved_in, copied, frame_in}
use Rattle.copying.proofs.Blocks.{part_ext, table_ext, saved_ext, row_beside, row_inside, drop_written, row_room}

-- table b lies within the need of the tables up to m
block_room : (n b m : ℕ) → b ≤ m → 16 * (n * b) + 16 * n ≤ need n m
block_room n b m h = let p : n * (b + 1) ≤ n * (m + 1) = mul-le n (b + 1) n (m + 1) (omega arith) (omega arith) in omega (arith, mul-add n b 1)

-- and behind the tables below it
block_apart : (n b d : ℕ) → b < d → 16 * (n * b) + 16 * n ≤ 16 * (n * d)
block_apart n b d h = let p : n * (b + 1) ≤ n * d = mul-le n (b + 1) n d (omega arith) (omega arith) in omega (arith, mul-add n b 1)

-- two tables lie apart
blocks_apart : (n a b : ℕ) → (a ≡ b → ⊥) → (16 * (n * a) + 16 * n ≤ 16 * (n * b)) ⊎ (16 * (n * b) + 16 * n ≤ 16 * (n * a))
blocks_apart n a b ne = ⊎_elim (λ l. inl (block_apart n a b l)) (λ g. inr (block_apart n b a (omega (arith, ne)))) (cases_lt a b)

-- a row of a block that is cut out of the words
row_cut : (p m k : ℕ) (ws : List ℕ) → p + m ≤ length ws → k + 16 ≤ m → row_in k (take m (drop p ws)) ≡ row_in (p + k) ws
row_cut p m k ws h l =
    let e : length (take m (drop p ws)) ≡ m = simp (length-take, length-drop) (omega arith) in
    part_ext 16 k (p + k) (take m (drop p ws)) ws (omega arith) (omega arith) (λ i q. search (rules, places))

-- the newest of the saved tables
saved_more : (n d : ℕ) (ws : List ℕ) → saved_in n (d + 1) ws ≡ table_in n (d + 1) ws ∷ saved_in n d ws
saved_more n d ws = subst (λ i. saved_in n i ws ≡ table_in n i ws ∷ saved_in n d ws) (sym (add-one d)) refl

module _ (n most : ℕ) (ws : List ℕ) (room : need n most ≤ length ws) (a b : ℕ) (from : a ≤ most) (to : b ≤ most) where
  cut : length (take (16 * n) (drop (16 * (n * a)) ws)) ≡ 16 * n
  cut = let p = block_room n a most from in simp (length-take, length-drop) (omega arith)

  over : 16 * (n * b) + length (take (16 * n) (drop (16 * (n * a)) ws)) ≤ length ws
  over = omega (arith, cut, block_room n b most to)

  -- the table that is written has the rows of the other
  table_copied : table_in n b (copied n a b ws) ≡ table_in n a ws
  table_copied =
      table_ext n b a (copied n a b ws) ws (λ x l.
      let e : 16 * (n * b + x) ≡ 16 * (n * b) + 16 * x = omega arith in
      let f : 16 * (n * a) + 16 * x ≡ 16 * (n * a + x) = omega arith in
      let c = cut in
      let p = block_room n a most from in
      ap (λ i. row_in i (copied n a b ws)) e
      ∙ row_inside (16 * (n * b)) (take (16 * n) (drop (16 * (n * a)) ws)) ws (16 * x) over (omega arith)
      ∙ row_cut (16 * (n * a)) (16 * n) (16 * x) ws (omega arith) (omega arith)
      ∙ ap (λ i. row_in i ws) f)

  row_apart : (c x : ℕ) → c ≤ most → (c ≡ b → ⊥) → x < n → row_in (16 * (n * c + x)) (copied n a b ws) ≡ row_in (16 * (n * c + x)) ws
  row_apart c x h ne l =
      let e = cut in
      row_beside (16 * (n * b)) (take (16 * n) (drop (16 * (n * a)) ws)) ws (16 * (n * c + x)) over (omega (arith, row_room n c most x h l))
      (⊎_elim (λ u. inl (omega arith)) (λ u. inr (omega arith)) (blocks_apart n c b ne))

  -- every other table has its own
  pub table_stays : (c : ℕ) → c ≤ most → (c ≡ b → ⊥) → table_in n c (copied n a b ws) ≡ table_in n c ws
  table_stays c h ne = table_ext n c c (copied n a b ws) ws (λ x l. row_apart c x h ne l)

  saved_stay : (d : ℕ) → d ≤ most → ((c : ℕ) → 1 ≤ c → c ≤ d → c ≡ b → ⊥) → saved_in n d (copied n a b ws) ≡ saved_in n d ws
  saved_stay d h ne = saved_ext n d (copied n a b ws) ws (λ c x p q l. row_apart c x (omega arith) (ne c p q) l)

  spare_stays : drop (need n most) (copied n a b ws) ≡ drop (need n most) ws
  spare_stays = drop_written (16 * (n * b)) (take (16 * n) (drop (16 * (n * a)) ws)) ws (need n most) over (omega (arith, cut, block_room n b most to))

  -- a store that has these words and is otherwise as it was
  pub frame_stays : {n' most' name name' : ℕ} {us : List ℕ} → n' ≡ n → most' ≡ most → name' ≡ name → us ≡ copied n a b ws → frame_in n' most' name' us ≡ frame_in n most name ws
  frame_stays e f g h = let s = spare_stays in cc

-- the saved tables of a store that has copied the table behind them
pub pushed : (n most depth : ℕ) (ws : List ℕ) {n' depth' : ℕ} {us : List ℕ} → need n most ≤ length ws → depth < most → n' ≡ n → depth' ≡ depth → us ≡ copied n 0 (depth + 1) ws
    → saved_in n' (depth' + 1) us ≡ table_in n 0 ws ∷ saved_in n depth ws
pushed n most depth ws room below e f g =
    let now = copied n 0 (depth + 1) ws in
    let t = table_copied n most ws room 0 (depth + 1) (omega arith) (omega arith) in
    let r = saved_stay n most ws room 0 (depth + 1) (omega arith) (omega arith) depth (omega arith) (λ c p q z. omega arith) in
    let u = saved_more n depth now in
    cc

-- and those of one that has copied the newest over the table
pub popped : (n most depth : ℕ) (ws : List ℕ) {n' depth' : ℕ} {us : List ℕ} → need n most ≤ length ws → 0 < depth → depth ≤ most → n' ≡ n → depth' ≡ depth → us ≡ copied n depth 0 ws
    → saved_in n depth ws ≡ table_in n' 0 us ∷ saved_in n' (depth' - 1) us
popped n most depth ws room some within e f g =
    let d : depth ≡ depth - 1 + 1 = omega arith in
    let t = table_copied n most ws room depth 0 within (omega arith) in
    let r = saved_stay n most ws room depth 0 within (omega arith) (depth - 1) (omega arith) (λ c p q z. omega arith) in
    let u = saved_more n (depth - 1) ws in
    cc
