-- What each call of a session does.
use Rattle.std.specs.Prelude.{◌≡◌, ℕ, zero, suc, ◌+◌, ◌-◌, Bool, true, false, List, [], ◌∷◌, Some, None, Ok, Err, ◌==◌, nat_lt}
use Rattle.tables.specs.Tables.{Table, size_of}
use Rattle.tables.specs.Stores.{newest, older}
use Rattle.rules.specs.Rules.{Rule}
use Rattle.rules.specs.declared.ran.Failed.{Failed as Stop}
use Rattle.rules.specs.Banks.{called, woken, Run}
use Rattle.sessions.specs.declared.standing.Standing.TheVariants as standing
use Rattle.sessions.specs.declared.call.Call.{Call}
use Rattle.sessions.specs.declared.call.Call.TheVariants.{Settle, Save, Restore}
use Rattle.sessions.specs.declared.answer.Answer.{Answer}
use Rattle.sessions.specs.declared.answer.Answer.TheVariants.{Done, Emptied, Settled, Failed, Refused}
use Rattle.sessions.specs.declared.fault.SessionFault.{SessionFault}
use Rattle.sessions.specs.Agendas.{joined}
use Rattle.sessions.specs.Worlds.{World, refusal, aimed, ordered}

-- how many values the first n domains have
abbrev pub values : ℕ → Table → ℕ
values zero t = 0
values (suc n) t = size_of (t n) + values n t

-- the variables whose domains got smaller
abbrev pub smaller : Table → Table → ℕ → Bool
smaller before after x = nat_lt (size_of (after x)) (size_of (before x))

-- the agenda after a change of the table: the rules that watch what got smaller and do not wait join its end
abbrev pub woke : List Rule → Table → Table → List ℕ → List ℕ
woke rules before after agenda = joined agenda (woken rules (smaller before after))

-- how a settle ends: settled, or failed at a rule
pub data Outcome : Type 0 where
  settled : Outcome
  failed : ℕ → Outcome

-- Settling: from an agenda and a table, with a number of runs, to an outcome and a table.
pub data Settles (n : ℕ) (rules : List Rule) : List ℕ → Table → ℕ → Outcome → Table → Type 0 where
  -- no rule waits
  rests : {t : Table} → Settles n rules [] t 0 settled t
  -- the first waiting rule fails; the table is then free content inside the earlier one
  fails : {i : ℕ} {rest : List ℕ} {t u : Table} {e : Stop} → Run n (called rules i) t (Err e) u → Settles n rules (i ∷ rest) t 1 (failed i) u
  -- it does not fail; it waits no more, what it woke joins, itself perhaps, and so on
  runs : {i : ℕ} {rest s : List ℕ} {t u v : Table} {k : ℕ} {o : Outcome} → Run n (called rules i) t (Ok s) u → Settles n rules (woke rules t u rest) u k o v → Settles n rules (i ∷ rest) t (suc k) o v

-- the world after an order that left its variable a value
abbrev pub stirred_by : List Rule → Call → World → World
stirred_by rules c w = record {
  standing = standing.Stirred;
  agenda = woke rules w.table (ordered c w.table) w.agenda;
  saves = w.saves;
  table = ordered c w.table;
  saved = w.saved;
}

-- the world after a failure, with the table that it left
abbrev pub broken_by : Table → World → World
broken_by t w = record { standing = standing.Failed; agenda = []; saves = w.saves; table = t; saved = w.saved }

-- the world after a settle that did not fail, with the table that it left
abbrev pub settled_by : Table → World → World
settled_by t w = record { standing = standing.Settled; agenda = []; saves = w.saves; table = t; saved = w.saved }

-- the world after a save
abbrev pub saved_by : World → World
saved_by w = record { standing = w.standing; agenda = w.agenda; saves = w.saves + 1; table = w.table; saved = w.table ∷ w.saved }

-- the world after a restore
abbrev pub restored_by : World → World
restored_by w = record { standing = standing.Settled; agenda = []; saves = w.saves - 1; table = newest w.saved w.table; saved = older w.saved }

-- A step: what a call may answer in the world w, and the world w' after it.
pub data Step (n most : ℕ) (rules : List Rule) (w w' : World) : Call → Answer → Type 0 where
  -- refused, and nothing changed
  refused : {c : Call} {f : SessionFault} → refusal n most w c ≡ Some f → w' ≡ w → Step n most rules w w' c (Refused f)
  -- an order that left its variable a value
  stirs : {c : Call} {x : ℕ} → aimed c ≡ Some x → refusal n most w c ≡ None → (size_of (ordered c w.table x) == 0) ≡ false → w' ≡ stirred_by rules c w → Step n most rules w w' c Done
  -- an order that left its variable none
  empties : {c : Call} {x : ℕ} → aimed c ≡ Some x → refusal n most w c ≡ None → (size_of (ordered c w.table x) == 0) ≡ true → w' ≡ broken_by (ordered c w.table) w → Step n most rules w w' c Emptied
  -- a settle that did not fail: the runs made, and the values removed
  settles : {t : Table} {k : ℕ} → refusal n most w Settle ≡ None → Settles n rules w.agenda w.table k settled t → w' ≡ settled_by t w → Step n most rules w w' Settle (Settled k (values n w.table - values n t))
  -- a settle that failed: the rule, and the runs made
  breaks : {t : Table} {i k : ℕ} → refusal n most w Settle ≡ None → Settles n rules w.agenda w.table k (failed i) t → w' ≡ broken_by t w → Step n most rules w w' Settle (Failed i k)
  saves : refusal n most w Save ≡ None → w' ≡ saved_by w → Step n most rules w w' Save Done
  restores : refusal n most w Restore ≡ None → w' ≡ restored_by w → Step n most rules w w' Restore Done
