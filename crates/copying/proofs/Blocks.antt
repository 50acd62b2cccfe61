-- Rows and tables in a list of words, and what a block that is written changes of them.
use Rattle.std.proofs.Common.{◌≡◌, ℕ, zero, suc, ◌+◌, ◌-◌, ◌*◌, ◌<◌, ◌≤◌, ltb, ◌⊎◌, List, [], ◌∷◌, length, get_or, take, drop, sym, refl, ap, ◌∙◌, ap₂, ⊎_elim, mul-add, arith, rules}
use mathlib.Core.Path.{fun_ext}
use Rattle.std.proofs.lemmas.Nat.{mul-le}
use Rattle.std.proofs.lemmas.List.{places, length-take, length-drop, length-append, ext_get_or}
use Rattle.std.proofs.lemmas.Bool.{cases_lt, lt-ltb, le-ltb, cond-true, cond-false}
use Rattle.tables.specs.Rows.{in_row}
use Rattle.tables.specs.Tables.{Table}
use Rattle.copying.specs.Memory.{need, row_in, row_at, table_in, saved_in, written}

-- ---- reading

-- a variable below n has its row
pub row_below : (n b x : ℕ) (ws : List ℕ) → x < n → row_at n b x ws ≡ row_in (16 * (n * b + x)) ws
row_below n b x ws h = cond-true (ltb x n) _ _ (lt-ltb x n h)

pub row_past : (n b x : ℕ) (ws : List ℕ) → n ≤ x → row_at n b x ws ≡ []
row_past n b x ws h = cond-false (ltb x n) _ _ (le-ltb x n h)

-- ---- rows with the same words

-- the n words from a place on, and those from another place in other words
pub part_ext : (n a b : ℕ) (us ws : List ℕ) → a + n ≤ length us → b + n ≤ length ws → ((i : ℕ) → i < n → get_or us (a + i) 0 ≡ get_or ws (b + i) 0) → take n (drop a us) ≡ take n (drop b ws)
part_ext n a b us ws p q f =
    let lu : length (take n (drop a us)) ≡ n = simp (length-take, length-drop) (omega arith) in
    let lw : length (take n (drop b ws)) ≡ n = simp (length-take, length-drop) (omega arith) in
    ext_get_or 0 (take n (drop a us)) (take n (drop b ws)) (lu ∙ sym lw) (λ i h. let e = f i (omega arith) in search (rules, places))

pub table_ext : (n a b : ℕ) (us ws : List ℕ) → ((x : ℕ) → x < n → row_in (16 * (n * a + x)) us ≡ row_in (16 * (n * b + x)) ws) → table_in n a us ≡ table_in n b ws
table_ext n a b us ws f =
    fun_ext (λ x. ap in_row
    (⊎_elim
    (λ l. row_below n a x us l ∙ f x l ∙ sym (row_below n b x ws l))
    (λ l. row_past n a x us l ∙ sym (row_past n b x ws l))
    (cases_lt x n)))

pub saved_ext : (n d : ℕ) (us ws : List ℕ) → ((b x : ℕ) → 1 ≤ b → b ≤ d → x < n → row_in (16 * (n * b + x)) us ≡ row_in (16 * (n * b + x)) ws) → saved_in n d us ≡ saved_in n d ws
saved_ext n zero us ws f = refl
saved_ext n (suc d) us ws f =
    ap₂ (λ (t : Table) (ts : List Table). t ∷ ts)
    (table_ext n (suc d) (suc d) us ws (λ x l. f (suc d) x (omega arith) (omega arith) l))
    (saved_ext n d us ws (λ b x p q l. f b x p (omega arith) l))

-- ---- a block that is written

length_written : (at : ℕ) (block ws : List ℕ) → at + length block ≤ length ws → length (written at block ws) ≡ length ws
length_written at block ws h = simp (length-append, length-take, length-drop) (omega arith)

-- a row beside the block stays
pub row_beside : (at : ℕ) (block ws : List ℕ) (a : ℕ) → at + length block ≤ length ws → a + 16 ≤ length ws → (a + 16 ≤ at) ⊎ (at + length block ≤ a) → row_in a (written at block ws) ≡ row_in a ws
row_beside at block ws a h l side =
    let e = length_written at block ws h in
    part_ext 16 a a (written at block ws) ws (omega arith) l (λ i q. ⊎_elim (λ s. search (rules, places)) (λ s. search (rules, places)) side)

-- a row inside the block is the block's
pub row_inside : (at : ℕ) (block ws : List ℕ) (k : ℕ) → at + length block ≤ length ws → k + 16 ≤ length block → row_in (at + k) (written at block ws) ≡ row_in k block
row_inside at block ws k h l =
    let e = length_written at block ws h in
    part_ext 16 (at + k) k (written at block ws) block (omega arith) l (λ i q. search (rules, places))

-- what lies past the block stays
pub drop_written : (at : ℕ) (block ws : List ℕ) (m : ℕ) → at + length block ≤ length ws → at + length block ≤ m → drop m (written at block ws) ≡ drop m ws
drop_written at block ws m h l =
    let e = length_written at block ws h in
    ext_get_or 0 (drop m (written at block ws)) (drop m ws) (simp length-drop (ap (λ i. i - m) e)) (λ i q. search (rules, places))

-- ---- the places of the tables

-- a row of table b lies within the need of b + 1 tables
pub row_room : (n b m x : ℕ) → b ≤ m → x < n → 16 * (n * b + x) + 16 ≤ need n m
row_room n b m x h l = let p : n * (b + 1) ≤ n * (m + 1) = mul-le n (b + 1) n (m + 1) (omega arith) (omega arith) in omega (arith, mul-add n b 1)

-- the rows of the table lie before those of the saved ones
pub row_apart : (n b x y : ℕ) → 1 ≤ b → x < n → 16 * x + 16 ≤ 16 * (n * b + y)
row_apart n b x y h l = let p : n * 1 ≤ n * b = mul-le n 1 n b (omega arith) h in omega arith
