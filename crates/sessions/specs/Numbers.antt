-- How many assignments there are.
use Rattle.std.specs.Prelude.{ℕ, zero, suc, ◌+◌, Bool, true, cond, ◌&&◌, List, [], ◌∷◌}
use Rattle.tables.specs.Values.{value_at}
use Rattle.tables.specs.Tables.{Table}
use Rattle.rules.specs.Rules.{Rule, Assignment}

-- the sum of f at the numbers below n
abbrev pub total : (ℕ → ℕ) → ℕ → ℕ
total f zero = 0
total f (suc n) = f n + total f n

-- how many assignments of the variables from x on, k of them, lie in a table and pass: each value of x in turn, with those of the others
unfoldable pub number : ℕ → ℕ → Table → (Assignment → Bool) → ℕ
number zero x t p = cond (p []) 1 0
number (suc k) x t p = total (λ q. cond (t x (value_at q)) (number k (suc x) t (λ a. p (value_at q ∷ a))) 0) 1024

-- whether an assignment obeys all rules
abbrev pub obeys_all : List Rule → Assignment → Bool
obeys_all [] a = true
obeys_all (r ∷ rs) a = r.obeyed a && obeys_all rs a

-- how many assignments of n variables lie in a table and obey all rules
abbrev pub obeying : ℕ → List Rule → Table → ℕ
obeying n rules t = number n 0 t (obeys_all rules)
