use Rattle.std.proofs.Common.{arith, rules}
use Rattle.tables.proofs.Finds.{First-from_shifted}
use Rattle.tables.proofs.rows.next_place.Goals as goal

pub returns : goal.returns
returns c =
    let few = c.if-start-min.false in
    let min = c.min.ensures in
    First-from_shifted c.args.row.now c.args.from _ c.lowest_bit.result c.map.result c.or_else.result (omega arith) (search rules) c.lowest_bit.ensures (omega arith) (search rules) (λ e. search rules) (λ b e. search rules)
