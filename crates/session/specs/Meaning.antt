-- What a session means, with the store that it works on.
use Rattle.std.specs.Prelude.{◌≡◌, ℕ, zero, suc, cond, not, List, [], ◌∷◌, ◌++◌, length, Some, None, Option, IfSome, is_none, ◌==◌, nat_lt, slice_index_or}
use Rattle.tables.specs.Tables.{Table, size_of, kept}
use Rattle.tables.specs.Stores.{Frame}
use Rattle.rules.specs.Rules.{Rule}
use Rattle.sessions.specs.declared.standing.Standing.TheVariants as standing
use Rattle.sessions.specs.declared.fault.SessionFault.{SessionFault}
use Rattle.sessions.specs.declared.fault.SessionFault.TheVariants as fault
use Rattle.sessions.specs.declared.call.Call.{Call}
use Rattle.sessions.specs.declared.call.Call.TheVariants.{Settle}
use Rattle.sessions.specs.declared.answer.Answer.{Answer}
use Rattle.sessions.specs.declared.answer.Answer.TheVariants.{Done}
use Rattle.sessions.specs.Agendas.{upto}
use Rattle.sessions.specs.Worlds.{World, is_failed, when, refusal, refused_start, aimed, ordered}
use Rattle.sessions.specs.Steps.{Step, woke, broken_by}
use Rattle.sessions.specs.Histories.{History, Lived}
use Rattle.sessions.specs.Promises.{Kept, Stuck, Throughout}
use Rattle.agenda.specs.Meaning.{waits}
use Rattle.session.specs.declared.state.Session.{Session}

-- the world of a session, with the store's table and saved tables
abbrev pub world : Session → Table → List Table → World
world s t saved = record { standing = s.standing; agenda = waits s.agenda; saves = s.saves; table = t; saved = saved }

-- a call of a session is a step, by what stays of the store and the bank's rules
abbrev pub Steps : Frame → List Rule → Call → Answer → World → World → Type 0
Steps f rules c a w w' = Step f.vars f.most rules w w' c a

-- and every history that led to it goes on by it and keeps the promises
abbrev pub Keeps : Frame → List Rule → Call → Answer → World → World → Type 0
Keeps f rules c a w w' = (start : Table) (base : List Table) (h : History) → Lived f.vars f.most rules start base h w → Kept f.vars f.most rules start base h c a w w'

-- the world of a beginning: accepted, it stands stirred and all rules wait; refused, it stands failed and none waits
abbrev pub beginning : Option SessionFault → List Rule → Table → List Table → World
beginning None rules t saved = record { standing = standing.Stirred; agenda = upto (length rules); saves = 0; table = t; saved = saved }
beginning (Some f) rules t saved = record { standing = standing.Failed; agenda = []; saves = 0; table = t; saved = saved }

-- a call is an order by which variable x keeps the values of a row, and which is refused where there is no row, since its numbers are not in order
pub record IsOrder (n : ℕ) (c : Call) (x : ℕ) (row : Option (List ℕ)) (t : Table) : Type 0 where
  pub aims : aimed c ≡ Some x
  pub refuses : (most : ℕ) (w : World) → refusal n most w c ≡ when (is_failed w.standing) fault.Failed (when (not (nat_lt x n)) fault.Variable (when (is_none row) fault.Value None))
  pub leaves : IfSome row (λ r. ordered c t ≡ kept x r t)

-- the world after an order that left the table t, by whether its variable x has a value left
abbrev pub after_order : List Rule → ℕ → Table → World → World
after_order rules x t w = cond (size_of (t x) == 0) (broken_by t w) (record { standing = standing.Stirred; agenda = woke rules w.table t w.agenda; saves = w.saves; table = t; saved = w.saved })

-- what is promised of a beginning: accepted, its history lives and keeps the promises; refused, nothing changes it any more
pub record Begins (f : Frame) (rules : List Rule) (t : Table) (saved : List Table) (w : World) : Type 0 where
  pub accepted : refused_start f.vars rules t ≡ None → Throughout f.vars f.most rules t saved [] w
  pub refused : (e : SessionFault) → refused_start f.vars rules t ≡ Some e → Stuck f.vars f.most rules w

-- the first k calls of a list with their answers, the newest first
abbrev pub events : List Call → List Answer → ℕ → History
events calls answers zero = []
events calls answers (suc k) = record { call = slice_index_or calls k Settle; answer = slice_index_or answers k Done } ∷ events calls answers k

-- every history that led to the world before a list of calls goes on by it, and keeps the promises all along
abbrev pub KeepsAlong : Frame → List Rule → History → World → World → Type 0
KeepsAlong f rules k w w' = (start : Table) (base : List Table) (h : History) → Lived f.vars f.most rules start base h w → Throughout f.vars f.most rules start base (k ++ h) w'
