use Rattle.std.proofs.Common.{◌≡◌, ◌<◌, ℤ, pos, negsuc, ◌+ℤ◌, ◌-ℤ◌, ◌≤ℤ◌, w32, SFits, to_z, of_z, ap, sym, subst, ◌∙◌, arith, rules}
use Rattle.std.proofs.lemmas.Int.{ints, to_z-of_z}
use Rattle.filters.specs.Visits.{ahead}
use Rattle.tour.proofs.RunsIterator.next.Goals as goal

ahead_is : (z : ℤ) → z ≤ℤ pos 512 → pos (ahead z) ≡ pos 512 -ℤ z
ahead_is (pos n) h = omega (arith, ints)
ahead_is (negsuc n) h = omega (arith, ints)

-- a number of 32 bits, as it is held
held : (v : ℤ) → negsuc 511 ≤ℤ v → v ≤ℤ pos 512 → to_z w32 (of_z w32 v) ≡ v
held v a b = omega (arith, ints)

-- behind a run there is less to go than before it
less : (from lo hi : ℤ) → from ≤ℤ lo → negsuc 511 ≤ℤ lo → lo ≤ℤ pos 511 → to_z w32 (of_z w32 lo) ≤ℤ hi → (to_z w32 (of_z w32 lo) ≤ℤ pos 511 → hi ≤ℤ pos 511) → ahead (to_z w32 (of_z w32 (to_z w32 (of_z w32 hi) +ℤ pos 1))) < ahead from
less from lo hi a l h up top =
    let same = held lo l (omega (arith, ints)) in
    let low : lo ≤ℤ hi = subst (λ v. v ≤ℤ hi) same up in
    let high : hi ≤ℤ pos 511 = top (omega (arith, ints)) in
    let is = ap (λ v. to_z w32 (of_z w32 (v +ℤ pos 1))) (held hi (omega (arith, ints)) (omega (arith, ints))) ∙ held (hi +ℤ pos 1) (omega (arith, ints)) (omega (arith, ints)) in
    let here = ahead_is from (omega (arith, ints)) in
    let there = ahead_is (hi +ℤ pos 1) (omega (arith, ints)) in
    subst (λ v. ahead v < ahead from) (sym is) (omega (arith, ints))

pub returns-clause-goes : goal.returns-clause-goes
returns-clause-goes g c =
    let lo = c.in_ok-lo.ensures in
    let fits : SFits w32 c.args.self.now.from = search rules in
    let reached = subst (λ v. v ≤ℤ c.in_ok-lo.lo) (to_z-of_z w32 c.args.self.now.from fits) lo.value.reached in
    let fewer = less c.args.self.now.from c.in_ok-lo.lo c.run_end-hi.result reached lo.bounds.0 lo.bounds.1 c.run_end-hi.ensures.from c.run_end-hi.ensures.bound in
    search rules
