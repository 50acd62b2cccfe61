-- What a keep does to a table.
use Rattle.std.proofs.Common.{◌≡◌, ℕ, ◌≤◌, Bool, false, not, ◌&&◌, ◌||◌, eqb, ltb, List, ℤ, ap, ◌∙◌, ap₂, ⊎_elim, arith}
use Rattle.std.proofs.Math.Bool.{and-true}
use Rattle.std.proofs.lemmas.Bool.{cases_Bool, eq-eqb, ne_eqb}
use Rattle.tables.specs.Rows.{in_row}
use Rattle.tables.specs.Tables.{Domain, Table, size_of, Shaped, kept}
use Rattle.tables.specs.declared.kept.Kept.{Kept}
use Rattle.tables.specs.Stores.{answer_keep}

-- the variable's own domain
pub kept_here : (x : ℕ) (row : List ℕ) (t : Table) (y : ℕ) (v : ℤ) → y ≡ x → kept x row t y v ≡ (t y v && in_row row v)
kept_here x row t y v e = ap (λ (b : Bool). t y v && (not b || in_row row v)) (eq-eqb y x e)

-- every other one
pub kept_beside : (x : ℕ) (row : List ℕ) (t : Table) (y : ℕ) (v : ℤ) → (y ≡ x → ⊥) → kept x row t y v ≡ t y v
kept_beside x row t y v ne = ap (λ (b : Bool). t y v && (not b || in_row row v)) (ne_eqb y x ne) ∙ and-true (t y v)

-- a shaped table has nothing outside
pub nothing_outside : (n : ℕ) (t : Table) → Shaped n t → (x : ℕ) → n ≤ x → (v : ℤ) → t x v ≡ false
nothing_outside n t shaped x h v = ⊎_elim (λ yes. absurd (omega (arith, (shaped x v yes).0))) (λ no. no) (cases_Bool (t x v))

-- the answer of a keep by its two parts
pub kept_is : {a b : Bool} (d e : Domain) → a ≡ ltb (size_of e) (size_of d) → b ≡ eqb (size_of e) 0 → ◌≡◌ {A = Kept} (record { smaller = a; empty = b }) (answer_keep d e)
kept_is d e p q = ap₂ (λ (a b : Bool). record { smaller = a; empty = b }) p q
