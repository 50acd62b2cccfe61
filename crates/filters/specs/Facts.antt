-- The laws of the rules of a list. Ghost members name these proofs.
use Rattle.std.specs.Prelude.{◌≡◌, ℕ, zero, suc, Bool, true, false, cond, List, [], ◌∷◌, map, length, get_or, Ok, nat_le, slice_index_or}
use Rattle.rules.specs.Rules.{Rule, Lawful}
use Rattle.rules.specs.Banks.{nobody, Lawfully}
use Rattle.rules.specs.Facts.{nobody_lawful}

module _ {A : Type 0} (f : A → Rule) (laws : (a : A) (n : ℕ) → (f a).fit n ≡ Ok tt → Lawful n (f a)) where
  at_lawful : (xs : List A) (i n : ℕ) → (get_or (map f xs) i nobody).fit n ≡ Ok tt → Lawful n (slice_index_or (map f xs) i nobody)
  at_lawful [] i n e = nobody_lawful n e
  at_lawful (x ∷ xs) zero n e = laws x n e
  at_lawful (x ∷ xs) (suc i) n e = at_lawful xs i n e

  some_lawful : (few : Bool) (r : Rule) (n : ℕ) → (r.fit n ≡ Ok tt → Lawful n r) → (cond few r nobody).fit n ≡ Ok tt → Lawful n (cond few r nobody)
  some_lawful true r n h e = h e
  some_lawful false r n h e = nobody_lawful n e

  -- where each rule that fits keeps the laws, the list does
  pub listed_lawful : (xs : List A) → Lawfully (map f xs)
  listed_lawful xs i n e = some_lawful (nat_le (length (map f xs)) 256) (slice_index_or (map f xs) i nobody) n (at_lawful xs i n) e
