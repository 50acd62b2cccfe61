use Rattle.std.proofs.Common.{◌≡◌, ℕ, ℤ, ◌≤ℤ◌, false, sym, refl, ap, subst, ◌∙◌, ap₂}
use Rattle.tables.specs.Tables.{Domain, Table, Least}
use Rattle.filters.specs.declared.visits.Walk.{Walk}
use Rattle.offsets.proofs.Walks.{Walked, walk_none, walk_all, turn_hit, turn_miss}
use Rattle.offsets.proofs.matched.Goals as goal

-- the domain that is walked, however it is named
same : (t u : Table) (y z : ℕ) → u ≡ t → z ≡ y → u z ≡ t y
same t u y z e f = ap₂ (λ (s : Table) (i : ℕ). s i) e f

pub loop-w-init : goal.loop-w-init
loop-w-init g c =
    let t = g.S.Domains.table c.args.store.now in
    let is = c.into_iter-w-iterator.ensures.into_iter_gives in
    let begun = c.values-w-items.ensures in (
      ap (λ (w : Walk g.row.S.Denot). g.S.Domains.table w.store.now) is ∙ ap (g.S.Domains.table) begun.store,
      ap (λ (w : Walk g.row.S.Denot). w.x) is ∙ begun.variable,
      subst (λ f. Walked t c.args.o.x c.args.o.y c.args.o.c f c.none-x.result c.none-y.result) (sym (ap (λ (w : Walk g.row.S.Denot). w.from) is ∙ begun.start))
          (walk_none _ t (g.met.S.Domains.shaped c.args.store.now) c.args.o.x c.args.o.y c.args.o.c c.none-x.result c.none-y.result c.none-x.ensures c.none-y.ensures),
    )

pub loop-w-preserved-then-has : goal.loop-w-preserved-then-has
loop-w-preserved-then-has g c =
    let t = g.S.Domains.table c.args.store.now in
    let inv = c.loop-w.invariant in
    let steps = c.in-Some.ensures.steps in
    let next = subst (λ (d : Domain). Least d c.loop-w.w-iterator.from c.in-Some.w) (same t _ c.args.o.y _ inv.0 inv.1) steps.0.0 in
    let walked = turn_hit _ t (g.met.S.Domains.shaped c.args.store.now) c.args.o.x c.args.o.y c.args.o.c _ c.in-Some.w next c.loop-w.x c.loop-w.y inv.2 c.requires (sym c.has.ensures ∙ c.if-has.true) c.insert.new.row c.insert-then-has.new.row c.insert.ensures c.insert-then-has.ensures in
    (ap (g.S.Domains.table) steps.1 ∙ inv.0, steps.2 ∙ inv.1, subst (λ f. Walked t c.args.o.x c.args.o.y c.args.o.c f c.insert.new.row c.insert-then-has.new.row) (sym steps.0.3) walked)

pub loop-w-preserved : goal.loop-w-preserved
loop-w-preserved g c =
    let t = g.S.Domains.table c.args.store.now in
    let inv = c.loop-w.invariant in
    let steps = c.in-Some.ensures.steps in
    let next = subst (λ (d : Domain). Least d c.loop-w.w-iterator.from c.in-Some.w) (same t _ c.args.o.y _ inv.0 inv.1) steps.0.0 in
    let walked = turn_miss _ t (g.met.S.Domains.shaped c.args.store.now) c.args.o.x c.args.o.y c.args.o.c _ c.in-Some.w next c.loop-w.x c.loop-w.y inv.2 c.requires (sym c.has.ensures ∙ c.if-has.false) c.loop-w.x c.loop-w.y refl refl in
    (ap (g.S.Domains.table) steps.1 ∙ inv.0, steps.2 ∙ inv.1, subst (λ f. Walked t c.args.o.x c.args.o.y c.args.o.c f c.loop-w.x c.loop-w.y) (sym steps.0.3) walked)

pub returns : goal.returns
returns g c =
    let t = g.S.Domains.table c.args.store.now in
    let inv = c.loop-w.invariant in
    let none = subst (λ (d : Domain). (u : ℤ) → c.loop-w.w-iterator.from ≤ℤ u → d u ≡ false) (same t _ c.args.o.y _ inv.0 inv.1) c.in-None.ensures.steps.0.0 in
    let all = walk_all _ t (g.met.S.Domains.shaped c.args.store.now) c.args.o.x c.args.o.y c.args.o.c _ c.loop-w.x c.loop-w.y inv.2 none in
    record { x = all.0; y = all.1 }
