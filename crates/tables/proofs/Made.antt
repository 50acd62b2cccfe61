-- Arrays that `from_fn` made.
use Rattle.std.proofs.Common.{◌≡◌, ℕ, zero, suc, ◌+◌, ◌<◌, ◌≤◌, List, get_or, sym, subst, ⊎_elim, arith}
use denote.Param.Members.{Mut}
use Rattle.std.specs.Array.{IsFromFnResult, IsFromFnResultFrom}
use Rattle.std.specs.Fn.{Called}
use Rattle.std.proofs.lemmas.Bool.{cases_lt}

-- by a closure that stays as it is, and of whose answer at each number P holds
module _ {F B : Type 0} (g : Mut F (ℕ × Unit {0}) B) (P : ℕ → B → Type 0) (f : F) (ys : List B) (e : B) (each : (i : ℕ) (y : B) (q : F) → Called g f (i, tt) y q → (q ≡ f) × P i y) where
  made_from : (n first i : ℕ) → IsFromFnResultFrom g f ys first n → first ≤ i → i < first + n → P i (get_or ys i e)
  made_from zero first i made l u = absurd (omega arith)
  made_from (suc n) first i made l u =
      let here = each first made.1 made.0 made.3 in
      ⊎_elim
      (λ (later : first < i). made_from n (first + 1) i (subst (λ p. IsFromFnResultFrom g p ys (first + 1) n) here.0 made.4) (omega arith) (omega arith))
      (λ (now : i ≤ first). let s : first ≡ i = omega arith in subst (λ j. P j (get_or ys j e)) s (subst (P first) (sym (made.2.1 e)) here.1))
      (cases_lt first i)

  pub made_at : (n : ℕ) → IsFromFnResult g f ys n → (i : ℕ) → i < n → P i (get_or ys i e)
  made_at n made i h = made_from n 0 i made.each (omega arith) (omega arith)
