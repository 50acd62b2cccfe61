use Rattle.std.proofs.Common.{◌≡◌, ℕ, ◌+◌, ◌*◌, ◌≤◌, length}
use Rattle.tables.specs.Tables.{Table}
use Rattle.sessions.specs.Steps.{values, Outcome, Settles}
use Rattle.agenda.specs.Meaning.{waits}
use Rattle.session.proofs.state.Session.propagate.Given as goal

-- each turn takes a rule from the agenda or, where others join, a value from the table
abbrev pub decreases-loop-rule : goal.decreases-loop-rule
decreases-loop-rule g l = 257 * values (g.S.Domains.frame l.store).vars (g.S.Domains.table l.store) + length (waits l.self.agenda)

abbrev pub invariant-loop-rule : goal.invariant-loop-rule
invariant-loop-rule g l =
    ((k : ℕ) (o : Outcome) (u : Table) → Settles (g.S.Domains.frame l.initial.store).vars (g.B.Bank.rules l.bank) (waits l.self.agenda) (g.S.Domains.table l.store) k o u → Settles (g.S.Domains.frame l.initial.store).vars (g.B.Bank.rules l.bank) (waits l.initial.self.agenda) (g.S.Domains.table l.initial.store) (l.runs + k) o u)
    × (g.S.Domains.saved l.store ≡ g.S.Domains.saved l.initial.store)
    × (g.S.Domains.frame l.store ≡ g.S.Domains.frame l.initial.store)
    × (l.self.saves ≡ l.initial.self.saves)
    × (l.runs + (257 * values (g.S.Domains.frame l.store).vars (g.S.Domains.table l.store) + length (waits l.self.agenda)) ≤ 67371264)
