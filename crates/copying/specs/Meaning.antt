-- What a copying store means.
use Rattle.std.specs.Prelude.{ℕ, List}
use Rattle.tables.specs.Stores.{Frame}
use Rattle.tables.specs.Tables.{Table}
use Rattle.copying.specs.declared.store.Copying.{Copying}
use Rattle.copying.specs.Memory.{table_in, saved_in, frame_in}

-- the words that were lent to it
abbrev pub words_of : Copying → List ℕ
words_of s = s.words.now

abbrev pub table_of : Copying → Table
table_of s = table_in s.n 0 (words_of s)

abbrev pub saved_of : Copying → List Table
saved_of s = saved_in s.n s.depth (words_of s)

abbrev pub frame_of : Copying → Frame
frame_of s = frame_in s.n s.most s.words.ghost_name (words_of s)
