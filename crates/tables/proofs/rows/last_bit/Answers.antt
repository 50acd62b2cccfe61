use Rattle.std.proofs.Common.{◌≡◌, ◌-◌, ◌^◌, ◌<◌, Bool, cond, ◌&&◌, eqb, ltb, Some, None, sym, refl, ap, ◌∙◌, subst, arith, rules}
use lib.Bits.{bit_and, and_lt}
use lib.Count.{count_leading_zeros}
use Rattle.std.proofs.lemmas.Grind.{common_steps}
use Rattle.tables.specs.Rows.{bit, Final}
use Rattle.tables.proofs.Words.{and_bits}
use Rattle.tables.proofs.Zeros.{final_bit}
use Rattle.tables.proofs.rows.last_bit.Goals as goal

pub returns : goal.returns
returns c =
    let w = c.args.word in
    let m = c.low_bits.result in
    let fits : w < 2 ^ 64 = search rules in
    let e : c.then.result ≡ cond (eqb (bit_and w m) 0) None (Some (63 - count_leading_zeros 64 (bit_and w m))) = grind (arith, common_steps) in
    subst (Final (bit w) c.args.end) (sym e) (final_bit w (bit_and w m) (λ k. ltb k c.args.end) (λ k l. and_bits w m k ∙ ap (λ (b : Bool). bit w k && b) (c.low_bits.ensures k l)) (and_lt 64 w m fits c.low_bits.type_inv) c.args.end fits (λ k. refl))
