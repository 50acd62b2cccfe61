-- A list in a ring of 256 places.
use Rattle.std.specs.Prelude.{ℕ, zero, suc, ◌+◌, ◌%◌, Bool, true, not, ◌&&◌, List, [], ◌∷◌, slice_index}
use Rattle.sessions.specs.Agendas.{member}

-- the numbers at the places from `at` on, `len` of them; behind the last place comes place 0
abbrev pub queue : List ℕ → ℕ → ℕ → List ℕ
queue ring at zero = []
queue ring at (suc len) = slice_index ring (at % 256) ∷ queue ring (at + 1) len

-- whether no number stands twice in a list; a field of a struct takes this, and not NoTwice
abbrev pub is_apart : List ℕ → Bool
is_apart [] = true
is_apart (x ∷ xs) = not (member x xs) && is_apart xs
