use Rattle.std.proofs.Common.{◌≡◌, length, drop}
use Rattle.sessions.specs.Histories.{Leads}
use Rattle.session.specs.Meaning.{world, events}
use Rattle.session.proofs.state.Session.play.Given as goal

abbrev pub invariant-loop-k : goal.invariant-loop-k
invariant-loop-k g l =
    (Leads (g.S.Domains.frame l.initial.store).vars (g.S.Domains.frame l.initial.store).most (g.B.Bank.rules l.bank) (world l.initial.self (g.S.Domains.table l.initial.store) (g.S.Domains.saved l.initial.store)) (events l.calls l.answers l.k) (world l.self (g.S.Domains.table l.store) (g.S.Domains.saved l.store)))
    × (length l.answers ≡ length l.initial.answers)
    × (drop l.k l.answers ≡ drop l.k l.initial.answers)
    × (g.S.Domains.frame l.store ≡ g.S.Domains.frame l.initial.store)
