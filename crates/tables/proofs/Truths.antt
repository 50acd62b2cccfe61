-- Truth values: what follows from which, orders of numbers as answers, and what is asked only where something holds.
use Rattle.std.proofs.Common.{◌≡◌, Bool, true, false, not, ◌||◌, ℤ, ◌≤ℤ◌, sym, refl, subst, arith}
use lib.Signed.{le_z}
use Rattle.std.proofs.lemmas.Int.{ints}

-- each follows from the other
pub either : (a b : Bool) → (a ≡ true → b ≡ true) → (b ≡ true → a ≡ true) → a ≡ b
either true b f g = sym (f refl)
either false true f g = g refl
either false false f g = refl

-- ---- orders of numbers

pub le_true : (u v : ℤ) → le_z u v ≡ true → u ≤ℤ v
le_true u v h = grind (arith, ints)

pub true_le : (u v : ℤ) → u ≤ℤ v → le_z u v ≡ true
true_le u v h = grind (arith, ints)

-- ---- what is asked only where q holds

pub asked : (q p : Bool) → (not q || p) ≡ true → q ≡ true → p ≡ true
asked q p h e = subst (λ (b : Bool). (not b || p) ≡ true) e h

pub answered : (q p : Bool) → (q ≡ true → p ≡ true) → (not q || p) ≡ true
answered true p f = f refl
answered false p f = refl

-- it is not asked elsewhere
pub unasked : (q p : Bool) → q ≡ false → (not q || p) ≡ true
unasked q p e = subst (λ (b : Bool). (not b || p) ≡ true) (sym e) refl
