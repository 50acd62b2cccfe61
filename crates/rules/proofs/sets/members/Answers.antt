use Rattle.rules.proofs.Walks.{all_left}
use Rattle.rules.proofs.sets.members.Goals as goal

pub returns : goal.returns
returns c = all_left c.args.set
