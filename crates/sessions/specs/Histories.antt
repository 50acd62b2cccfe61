-- Histories of a session: the calls and their answers, the newest first.
use Rattle.std.specs.Prelude.{◌≡◌, ℕ, Bool, true, false, cond, not, ◌&&◌, ◌||◌, List, [], ◌∷◌, length, None, ◌==◌}
use Rattle.tables.specs.Tables.{Table, Shaped}
use Rattle.rules.specs.Rules.{Rule}
use Rattle.sessions.specs.declared.standing.Standing.TheVariants as standing
use Rattle.sessions.specs.declared.call.Call.{Call}
use Rattle.sessions.specs.declared.call.Call.TheVariants.{Strike, Narrow, Settle, Save, Restore}
use Rattle.sessions.specs.declared.answer.Answer.{Answer}
use Rattle.sessions.specs.declared.answer.Answer.TheVariants.{Done, Emptied, Settled, Failed, Refused}
use Rattle.sessions.specs.Agendas.{upto}
use Rattle.sessions.specs.Worlds.{World, refused_start, ordered}
use Rattle.sessions.specs.Steps.{Step}

-- a call with its answer
pub record Event : Type 0 where
  pub call : Call
  pub answer : Answer

abbrev pub History : Type 0
History = List Event

-- A session begun with a table on a store that held some saved tables already: accepted, stirred, with all rules waiting.
pub record Begun (n : ℕ) (rules : List Rule) (start : Table) (base : List Table) (w : World) : Type 0 where
  pub shaped : Shaped n start
  pub accepted : refused_start n rules start ≡ None
  pub stands : w ≡ record { standing = standing.Stirred; agenda = upto (length rules); saves = 0; table = start; saved = base }

-- A history that leads from a beginning to the world w.
pub data Lived (n most : ℕ) (rules : List Rule) (start : Table) (base : List Table) : History → World → Type 0 where
  begun : {w : World} → Begun n rules start base w → Lived n most rules start base [] w
  stepped : {h : History} {w w' : World} {c : Call} {a : Answer} → Lived n most rules start base h w → Step n most rules w w' c a → Lived n most rules start base (record { call = c; answer = a } ∷ h) w'

-- A list of calls that leads from the world w to another, the newest first.
pub data Leads (n most : ℕ) (rules : List Rule) (w : World) : History → World → Type 0 where
  stays : Leads n most rules w [] w
  goes : {h : History} {v v' : World} {c : Call} {a : Answer} → Leads n most rules w h v → Step n most rules v v' c a → Leads n most rules w (record { call = c; answer = a } ∷ h) v'

-- ---- the orders in force

-- whether a call was performed
abbrev pub granted : Answer → Bool
granted Done = true
granted Emptied = true
granted (Settled k m) = true
granted (Failed i k) = true
granted (Refused f) = false

-- the orders in force, the newest first, and what the session's saves noted of them, the newest first
pub record Orders : Type 0 where
  pub force : List Call
  pub notes : List (List Call)

-- a restore puts back the last note and drops it
abbrev pub put_back : List Call → List (List Call) → Orders
put_back force [] = record { force = force; notes = [] }
put_back force (note ∷ notes) = record { force = note; notes = notes }

-- what a performed call makes of them: an order joins, a save notes them
abbrev pub heeded : Call → Orders → Orders
heeded (Strike x v) o = record { force = Strike x v ∷ o.force; notes = o.notes }
heeded (Narrow x lo hi) o = record { force = Narrow x lo hi ∷ o.force; notes = o.notes }
heeded Settle o = o
heeded Save o = record { force = o.force; notes = o.force ∷ o.notes }
heeded Restore o = put_back o.force o.notes

-- the orders in force after a history: they follow from the calls and which of them were refused
abbrev pub orders : History → Orders
orders [] = record { force = []; notes = [] }
orders (e ∷ h) = cond (granted e.answer) (heeded e.call (orders h)) (orders h)

-- a table under some orders
abbrev pub under : List Call → Table → Table
under [] t = t
under (c ∷ cs) t = ordered c (under cs t)

-- the table of a start under the orders in force after a history
abbrev pub bounds : Table → History → Table
bounds start h = under (orders h).force start

-- ---- what the last call was

abbrev pub is_settled : Answer → Bool
is_settled Done = false
is_settled Emptied = false
is_settled (Settled k m) = true
is_settled (Failed i k) = false
is_settled (Refused f) = false

-- a settle that answered settled, or a granted restore
abbrev pub rests : Call → Answer → Bool
rests (Strike x v) a = false
rests (Narrow x lo hi) a = false
rests Settle a = is_settled a
rests Save a = false
rests Restore a = granted a

abbrev pub rested : History → Bool
rested [] = false
rested (e ∷ h) = rests e.call e.answer

-- whether a settle has answered settled
abbrev pub ever_settled : History → Bool
ever_settled [] = false
ever_settled (e ∷ h) = is_settled e.answer || ever_settled h

-- whether a call is an order on x
abbrev pub aims : Call → ℕ → Bool
aims (Strike y v) x = x == y
aims (Narrow y lo hi) x = x == y
aims Settle x = false
aims Save x = false
aims Restore x = false

-- whether an order on x was performed since the last settled answer or granted restore
abbrev pub touched : History → ℕ → Bool
touched [] x = false
touched (e ∷ h) x = not (rests e.call e.answer) && ((granted e.answer && aims e.call x) || touched h x)
