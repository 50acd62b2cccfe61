use Rattle.std.proofs.Common.{◌-◌, sym, ap, ◌∙◌, arith}
use Rattle.std.proofs.lemmas.Nat.{one_shl}
use Rattle.std.proofs.lemmas.Bool.{lt-ltb}
use Rattle.tables.specs.Rows.{bit}
use Rattle.tables.proofs.Words.{bit_low}
use Rattle.tables.proofs.rows.low_bits.Goals as goal

pub returns-then-n-ge64 : goal.returns-then-n-ge64
returns-then-n-ge64 c k h = bit_low 64 k ∙ lt-ltb k 64 h ∙ sym (lt-ltb k c.args.n (omega arith))

pub returns-else-n-ge64 : goal.returns-else-n-ge64
returns-else-n-ge64 c k h = ap (λ m. bit (m - 1) k) (one_shl c.args.n 64 c.if-n-ge64.false) ∙ bit_low c.args.n k
