-- The members of a set of numbers as a list.
use Rattle.std.specs.Prelude.{ℕ, zero, suc, Bool, cond, ◌&&◌, List, [], ◌∷◌, ◌++◌, nat_le}
use Rattle.rules.specs.declared.members.Members.{Members}
use Rattle.rules.specs.Banks.{in_set}

-- the numbers below n that pass, ascending
abbrev pub select : (ℕ → Bool) → ℕ → List ℕ
select p zero = []
select p (suc n) = select p n ++ cond (p n) (n ∷ []) []

-- the members of a set, ascending
unfoldable pub members_of : List ℕ → List ℕ
members_of s = select (in_set s) 256

-- those that are still to come
unfoldable pub members_left : Members → List ℕ
members_left m = select (λ k. nat_le m.from k && in_set m.set k) 256
