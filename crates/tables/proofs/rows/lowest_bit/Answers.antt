use Rattle.std.proofs.Common.{◌≡◌, ◌^◌, ◌<◌, cond, eqb, Some, None, sym, subst, arith, rules}
use lib.Count.{count_trailing_zeros}
use Rattle.std.proofs.lemmas.Grind.{common_steps}
use Rattle.tables.specs.Rows.{bit, First}
use Rattle.tables.proofs.Zeros.{first_bit}
use Rattle.tables.proofs.rows.lowest_bit.Goals as goal

pub returns : goal.returns
returns c =
    let w = c.args.word in
    let fits : w < 2 ^ 64 = search rules in
    let e : c.then.result ≡ cond (eqb w 0) None (Some (count_trailing_zeros 64 w)) = grind (arith, common_steps) in
    subst (First (bit w) 0 64) (sym e) (first_bit w fits)
