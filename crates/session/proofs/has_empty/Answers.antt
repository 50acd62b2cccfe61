use Rattle.std.proofs.Common.{eqb, refl, ◌∙◌, arith, rules}
use Rattle.std.proofs.lemmas.Iterator.{YieldsList-from_range}
use Rattle.std.proofs.lemmas.Iterator.Search.{any_from_yields_List}
use Rattle.tables.specs.Tables.{size_of}
use Rattle.session.proofs.Counting.{any_void}
use Rattle.session.proofs.has_empty.Goals as goal

pub returns : goal.returns
returns g c =
    let t = g.S.Domains.table c.args.store.now in
    any_from_yields_List (λ x. eqb (size_of (t x)) 0) _ _ _ c.any.ensures.ran (YieldsList-from_range 0 c.args.n c.args.n refl (omega arith)) (λ x b q k. search rules)
    ∙ any_void t c.args.n
