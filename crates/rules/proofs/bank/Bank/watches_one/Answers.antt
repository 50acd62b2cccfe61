use Rattle.std.proofs.Common.{◌∙◌, rules}
use Rattle.std.proofs.lemmas.Iterator.Consumers.{YieldsList-from_first}
use Rattle.std.proofs.lemmas.Iterator.Search.{any_from_yields_List}
use Rattle.rules.specs.Banks.{called, woken}
use Rattle.rules.specs.Sets.{members_left}
use Rattle.rules.proofs.Walks.{any_member}
use Rattle.rules.proofs.bank.Bank.watches_one.Goals as goal

pub returns : goal.returns
unfolding woken
returns g c =
    let rule = called (g.Self.Bank.rules c.args.self.now) c.args.rule in
    any_from_yields_List rule.watches _ _ _ c.any.ensures.ran (YieldsList-from_first (λ x. x) members_left _ c.members.ensures) (λ x b q k. search rules)
    ∙ any_member rule.watches c.args.changed
