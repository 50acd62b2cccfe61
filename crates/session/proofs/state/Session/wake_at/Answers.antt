use Rattle.agenda.specs.Meaning.{waits}
use Rattle.session.proofs.Waking.{wakes_one}
use Rattle.session.proofs.state.Session.wake_at.Goals as goal

pub returns-clause-agenda : goal.returns-clause-agenda
returns-clause-agenda g c = wakes_one (g.B.Bank.rules c.args.bank.now) (waits c.args.self.now.agenda) _ c.none-changed.result c.insert.new.set c.args.x c.none-changed.ensures c.insert.ensures c.wake.ensures.agenda
