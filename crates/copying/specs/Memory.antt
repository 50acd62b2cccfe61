-- The words of a copying store: tables of n rows one behind the other, number 0 the table itself, the saved ones from 1 on, oldest first.
use Rattle.std.specs.Prelude.{ℕ, zero, suc, ◌+◌, ◌*◌, Bool, cond, ◌&&◌, List, [], ◌∷◌, ◌++◌, length, take, drop, Ok, Err, Result, bit_and, nat_le, nat_lt}
use Rattle.tables.specs.declared.fault.StoreFault.{StoreFault}
use Rattle.tables.specs.declared.fault.StoreFault.TheVariants.{Limits}
use Rattle.tables.specs.Stores.{Frame}
use Rattle.tables.specs.Rows.{in_row}
use Rattle.tables.specs.Tables.{Table}

-- how many words a store of n variables and `most` saved tables works in
abbrev pub need : ℕ → ℕ → ℕ
need n most = 16 * (n * (most + 1))

-- whether a store of these sizes can be made in `len` words
abbrev pub fits : ℕ → ℕ → ℕ → Bool
fits n most len = (nat_le 1 n && nat_le n 256) && ((nat_le 1 most && nat_le most 16) && nat_le (need n most) len)

-- what the check answers
abbrev pub answer_check : ℕ → ℕ → ℕ → Result (Unit {0}) StoreFault
answer_check n most len = cond (fits n most len) (Ok tt) (Err Limits)

-- the sixteen words from a place on
abbrev pub row_in : ℕ → List ℕ → List ℕ
row_in at words = take 16 (drop at words)

-- the row of variable x in table number b, none where x is not below n
abbrev pub row_at : ℕ → ℕ → ℕ → List ℕ → List ℕ
row_at n b x words = cond (nat_lt x n) (row_in (16 * (n * b + x)) words) []

-- table number b
abbrev pub table_in : ℕ → ℕ → List ℕ → Table
table_in n b words x = in_row (row_at n b x words)

-- the saved tables where `depth` are saved, the newest first
abbrev pub saved_in : ℕ → ℕ → List ℕ → List Table
saved_in n zero words = []
saved_in n (suc depth) words = table_in n (suc depth) words ∷ saved_in n depth words

-- the words with a block written over them from a place on
abbrev pub written : ℕ → List ℕ → List ℕ → List ℕ
written at block words = take at words ++ (block ++ drop (at + length block) words)

-- the words that two rows have in common
abbrev pub meet : List ℕ → List ℕ → List ℕ
meet [] row = []
meet (w ∷ words) [] = []
meet (w ∷ words) (r ∷ row) = bit_and w r ∷ meet words row

-- the words after a keep of a row at x
abbrev pub narrowed : ℕ → ℕ → List ℕ → List ℕ → List ℕ
narrowed n x row words = cond (nat_lt x n) (written (16 * x) (meet (row_in (16 * x) words) row) words) words

-- the words with those of table number `from` written over those of table number `to`
abbrev pub copied : ℕ → ℕ → ℕ → List ℕ → List ℕ
copied n from to words = written (16 * (n * to)) (take (16 * n) (drop (16 * (n * from)) words)) words

-- what no call changes
abbrev pub frame_in : ℕ → ℕ → ℕ → List ℕ → Frame
frame_in n most anchor words = record { vars = n; most = most; anchors = anchor ∷ []; spare = drop (need n most) words }
