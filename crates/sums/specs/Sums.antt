-- What the rule s₁x₁ + … + s_k x_k + c = 0 means, where each s is +1 or -1.
use Rattle.std.specs.Prelude.{ℕ, Bool, true, false, cond, not, ◌&&◌, ◌||◌, List, [], ◌∷◌, map, length, ℤ, pos, negsuc, ◌+ℤ◌, ◌-ℤ◌, neg_ℤ, Ok, Err, ◌==◌, int_le, nat_le, nat_lt}
use Rattle.tables.specs.Values.{equal_int}
use Rattle.tables.specs.Tables.{Domain, Table}
use Rattle.rules.specs.declared.fault.RuleFault.TheVariants.{Variable, Value, Length}
use Rattle.rules.specs.Rules.{Rule, Assignment, at}
use Rattle.filters.specs.Ends.{least, greatest}
use Rattle.sums.specs.declared.rule.Sign.{Sign}
use Rattle.sums.specs.declared.rule.Sign.TheVariants.{Plus, Minus}
use Rattle.sums.specs.declared.rule.Term.{Term}
use Rattle.sums.specs.declared.rule.Sum.{Sum}

-- what a term is worth where its variable is v
abbrev pub signed : Sign → ℤ → ℤ
signed Plus v = v
signed Minus v = neg_ℤ v

-- the least and the greatest worth of a term with a domain
abbrev pub lowest : Sign → Domain → ℤ
lowest Plus d = least d
lowest Minus d = neg_ℤ (greatest d)

abbrev pub highest : Sign → Domain → ℤ
highest Plus d = greatest d
highest Minus d = neg_ℤ (least d)

abbrev pub lo : Table → Term → ℤ
lo t m = lowest m.sign (t m.x)

abbrev pub hi : Table → Term → ℤ
hi t m = highest m.sign (t m.x)

-- the sum of a number for each term
abbrev pub total : (Term → ℤ) → List Term → ℤ
total f [] = pos 0
total f (m ∷ ms) = f m +ℤ total f ms

-- where the worth of a term may lie
pub record Window : Type 0 where
  pub x : ℕ
  pub sign : Sign
  pub from : ℤ
  pub upto : ℤ

-- the windows of some terms: each from -c minus the other hi's to -c minus the other lo's. The others are the terms before it, whose lo's and hi's sum to `los` and `his`, and the terms after it.
abbrev pub windows : ℤ → Table → ℤ → ℤ → List Term → List Window
windows c t los his [] = []
windows c t los his (m ∷ ms) =
    record { x = m.x; sign = m.sign; from = neg_ℤ c -ℤ (his +ℤ total (hi t) ms); upto = neg_ℤ c -ℤ (los +ℤ total (lo t) ms) }
    ∷ windows c t (los +ℤ lo t m) (his +ℤ hi t m) ms

-- the worth of v lies in a window
abbrev pub lies : Window → ℤ → Bool
lies w v = int_le w.from (signed w.sign v) && int_le (signed w.sign v) w.upto

-- v passes the windows of all terms on z
abbrev pub passes : List Window → ℕ → ℤ → Bool
passes [] z v = true
passes (w ∷ ws) z v = (not (z == w.x) || lies w v) && passes ws z v

-- what is left of a table, all by the table as it was: v stays in a variable exactly if it passes the windows of all terms on it
abbrev pub balanced : ℤ → List Term → Table → Table
balanced c ms t = let ws : List Window = windows c t (pos 0) (pos 0) ms in λ z v. t z v && passes ws z v

-- some term is on a variable
abbrev pub on_any : List Term → ℕ → Bool
on_any [] z = false
on_any (m ∷ ms) z = z == m.x || on_any ms z

-- every term is on a variable below n
abbrev pub are_below : ℕ → List Term → Bool
are_below n [] = true
are_below n (m ∷ ms) = nat_lt m.x n && are_below n ms

-- whether c lies from -16,384 to 16,383 (`negsuc 16383` is -16,384)
abbrev pub in_reach : ℤ → Bool
in_reach c = int_le (negsuc 16383) c && int_le c (pos 16383)

-- what a term is worth under an assignment
abbrev pub worth : Assignment → Term → ℤ
worth a m = signed m.sign (at a m.x)

-- the rule that the terms of a list and c together are 0
abbrev pub balance : ℤ → List Term → Rule
balance c ms = record {
  watches = on_any ms;
  filter = balanced c ms;
  obeyed = λ a. equal_int (total (worth a) ms +ℤ c) (pos 0);
  fit = λ n. cond (are_below n ms) (cond (in_reach c) (cond (nat_le 1 (length ms) && nat_le (length ms) 32) (Ok tt) (Err Length)) (Err Value)) (Err Variable);
}

abbrev pub sum : Sum → Rule
sum s = balance s.c s.terms.now

-- the rules of a list, in its order
abbrev pub rules_of : List Sum → List Rule
rules_of ss = map sum ss
