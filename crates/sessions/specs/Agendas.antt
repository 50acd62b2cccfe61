-- The agenda: the rules that wait, in their order.
use Rattle.std.specs.Prelude.{◌≡◌, ℕ, Bool, true, false, not, ◌&&◌, ◌||◌, List, [], ◌∷◌, ◌++◌, ◌==◌}
use Rattle.rules.specs.Sets.{select}

-- whether a list has a number
abbrev pub member : ℕ → List ℕ → Bool
member k [] = false
member k (x ∷ xs) = k == x || member k xs

-- no number stands twice in a list
abbrev pub NoTwice : List ℕ → Type 0
NoTwice [] = Unit {0}
NoTwice (x ∷ xs) = (member x xs ≡ false) × NoTwice xs

-- all numbers below n, ascending
abbrev pub upto : ℕ → List ℕ
upto n = select (λ _. true) n

-- an agenda after the rules of a set that do not wait have joined its end, ascending; a rule's number is below 256
unfoldable pub joined : List ℕ → (ℕ → Bool) → List ℕ
joined agenda s = agenda ++ select (λ k. s k && not (member k agenda)) 256
