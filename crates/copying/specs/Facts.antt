-- Facts that hold of the tables in any words.
use Rattle.std.specs.Prelude.{◌≡◌, ℕ, zero, suc, ◌+◌, ◌*◌, ◌<◌, ◌≤◌, Bool, true, false, cond, List, [], length, ℤ, nat_lt, refl}
use Rattle.std.proofs.Common.{sym, ap, subst, zero-le}
use Rattle.std.proofs.lemmas.Bool.{ltb-true, and_parts, and_right, both_ways}
use Rattle.tables.specs.Values.{is_value, place}
use Rattle.tables.specs.Rows.{at_place, in_row}
use Rattle.tables.specs.Tables.{Shaped, AllShaped}
use Rattle.tables.proofs.Places.{at_past}
use Rattle.copying.specs.Memory.{row_in, table_in, saved_in}

-- no word, no value
pub none_in : (v : ℤ) → in_row [] v ≡ false
none_in v = and_right (is_value v) (at_place [] (place v)) (at_past [] (place v) (zero-le))

pub table_shaped : (n b : ℕ) (ws : List ℕ) → Shaped n (table_in n b ws)
table_shaped n b ws x v h = by (nat_lt x n) refl h
  where
    by : (t : Bool) → nat_lt x n ≡ t → in_row (cond t (row_in (16 * (n * b + x)) ws) []) v ≡ true → (x < n) × (is_value v ≡ true)
    by true below h = (ltb-true x n below, (and_parts (is_value v) (at_place (row_in (16 * (n * b + x)) ws) (place v)) h).0)
    by false past h = absurd (both_ways (in_row [] v) (none_in v) h)

pub saved_shaped : (n d : ℕ) (ws : List ℕ) → AllShaped n (saved_in n d ws)
saved_shaped n zero ws = tt
saved_shaped n (suc d) ws = (table_shaped n (suc d) ws, saved_shaped n d ws)

pub length_saved : (n d : ℕ) (ws : List ℕ) → length (saved_in n d ws) ≡ d
length_saved n zero ws = refl
length_saved n (suc d) ws = ap suc (length_saved n d ws)

pub saved_within : (n d most : ℕ) (ws : List ℕ) → d ≤ most → length (saved_in n d ws) ≤ most
saved_within n d most ws h = subst (λ k. k ≤ most) (sym (length_saved n d ws)) h
