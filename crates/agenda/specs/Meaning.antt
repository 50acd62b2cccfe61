-- What an agenda means.
use Rattle.std.specs.Prelude.{ℕ, List}
use Rattle.agenda.specs.declared.queue.Agenda.{Agenda}
use Rattle.agenda.specs.Rings.{queue}

-- the rules that wait, the first to run first
abbrev pub waits : Agenda → List ℕ
waits a = queue a.rules a.first a.len
