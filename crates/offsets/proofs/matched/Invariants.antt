use Rattle.std.proofs.Common.{◌≡◌}
use Rattle.offsets.proofs.Walks.{Walked}
use Rattle.offsets.proofs.matched.Given as goal

abbrev pub invariant-loop-w : goal.invariant-loop-w
invariant-loop-w g l =
    (g.S.Domains.table l.w-iterator.store.now ≡ g.S.Domains.table l.store)
    × (l.w-iterator.x ≡ l.o.y)
    × Walked (g.S.Domains.table l.store) l.o.x l.o.y l.o.c l.w-iterator.from l.x l.y
