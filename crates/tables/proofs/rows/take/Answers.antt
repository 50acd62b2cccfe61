use Rattle.std.proofs.Common.{◌-◌, ◌/◌, ◌%◌, ◌^◌, get_or, set, ap, ◌∙◌, arith}
use lib.Bits.{bit_and}
use Rattle.std.proofs.lemmas.Nat.{one_shl}
use Rattle.tables.specs.Rows.{at_place}
use Rattle.tables.proofs.Places.{at_drop}
use Rattle.tables.proofs.rows.take.Goals as goal

pub returns-then-p : goal.returns-then-p
returns-then-p g c q =
    let row = c.args.words.now in
    let p = c.args.p in
    ap (λ m. at_place (set row (p / 64) (bit_and (get_or row (p / 64) 0) (2 ^ 64 - 1 - m))) q) (one_shl (p % 64) 64 (omega arith)) ∙ at_drop row p q (omega arith)
