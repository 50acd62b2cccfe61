use Rattle.std.proofs.Common.{◌*◌, ◌/◌, ◌%◌, Bool, ◌||◌, get_or, set, ap, ◌∙◌, arith}
use Rattle.std.proofs.Math.Bool.{and-true}
use lib.Bits.{bit_or}
use Rattle.std.proofs.lemmas.Bool.{lt-ltb}
use Rattle.std.proofs.lemmas.Nat.{one_shl}
use Rattle.tables.specs.Rows.{at_place}
use Rattle.tables.proofs.Places.{at_put}
use Rattle.tables.proofs.rows.put.Goals as goal

pub returns-then-p : goal.returns-then-p
returns-then-p g c q =
    let row = c.args.words.now in
    let p = c.args.p in
    ap (λ m. at_place (set row (p / 64) (bit_or (get_or row (p / 64) 0) m)) q) (one_shl (p % 64) 64 (omega arith))
    ∙ at_put row p q (omega arith)
    ∙ ap (λ (b : Bool). at_place row q || b) (rw (lt-ltb p (64 * g.row.N) (omega arith), and-true))
