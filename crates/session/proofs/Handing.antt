-- What `map_err` hands on: the value as it was, or what was made of the error.
use Rattle.std.proofs.Common.{◌≡◌, Ok, Err, Result, MatchResult, refl, subst}
use Rattle.std.specs.Result.{IsErrAnd}

pub handed_ok : {T E D : Type 0} (r : Result T E) (m : Result T D) (P : E → D → Type 0) → MatchResult r (λ x. m ≡ Ok x) (λ e. IsErrAnd m (P e)) → (x : T) → m ≡ Ok x → r ≡ Ok x
handed_ok (Ok y) m P h x is = cc
handed_ok (Err e) m P h x is = absurd (subst (λ q. IsErrAnd q (P e)) is h)

pub handed_err : {T E D : Type 0} (r : Result T E) (m : Result T D) (P : E → D → Type 0) → MatchResult r (λ x. m ≡ Ok x) (λ e. IsErrAnd m (P e)) → (d : D) → m ≡ Err d → (e : E) × (r ≡ Err e) × P e d
handed_err (Ok y) m P h d is = absurd (cc)
handed_err (Err e) m P h d is = (e, refl, subst (λ q. IsErrAnd q (P e)) is h)
