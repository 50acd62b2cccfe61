use Rattle.std.proofs.Common.{◌≡◌, true, ℤ, pos, ◌+ℤ◌, ◌≤ℤ◌}
use Rattle.tour.proofs.run_end.Given as goal

abbrev pub invariant-loop-hi : goal.invariant-loop-hi
invariant-loop-hi g l = (l.lo ≤ℤ l.hi) × ((u : ℤ) → (l.lo +ℤ pos 1) ≤ℤ u → u ≤ℤ l.hi → g.S.Domains.table l.store l.x u ≡ true)
