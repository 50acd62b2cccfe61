use Rattle.std.proofs.Common.{◌≡◌, ℕ, ◌-◌, ◌^◌, ◌<◌, not, ◌&&◌, length, get_or, ap, ◌∙◌, rules}
use lib.Bits.{bit_and}
use Rattle.tables.specs.Rows.{bit}
use Rattle.tables.proofs.Made.{made_at}
use Rattle.rules.proofs.Numbers.{set_minus, word_minus}
use Rattle.rules.proofs.sets.minus.Goals as goal

pub returns : goal.returns
returns c j =
    let la : length c.args.set ≡ 4 = search rules in
    let lr : length c.from_fn.result ≡ 4 = search rules in
    set_minus c.args.set c.args.other c.from_fn.result la lr
    (made_at _ (λ i w. (k : ℕ) → k < 64 → bit w k ≡ (bit (get_or c.args.set i 0) k && not (bit (get_or c.args.other i 0) k))) _ _ 0 (λ i y q r. (search rules, λ k h. let e : y ≡ bit_and (get_or c.args.set i 0) (2 ^ 64 - 1 - get_or c.args.other i 0) = search rules in ap (λ n. bit n k) e ∙ word_minus _ _ k h (search rules))) 4 c.from_fn.ensures.items)
    j
