-- Where a session stands, and what it refuses.
use Rattle.std.specs.Prelude.{ℕ, suc, Bool, true, false, cond, not, ◌&&◌, ◌||◌, List, [], ◌∷◌, length, Some, None, Ok, Err, Option, Result, ◌==◌, int_le, nat_le, nat_lt}
use Rattle.tables.specs.declared.fault.StoreFault.TheVariants as store
use Rattle.tables.specs.Values.{is_value, equal_int}
use Rattle.tables.specs.Tables.{Table, is_void}
use Rattle.rules.specs.declared.fault.RuleFault.{RuleFault}
use Rattle.rules.specs.Rules.{Rule}
use Rattle.sessions.specs.declared.standing.Standing.{Standing}
use Rattle.sessions.specs.declared.standing.Standing.TheVariants as standing
use Rattle.sessions.specs.declared.call.Call.{Call}
use Rattle.sessions.specs.declared.call.Call.TheVariants.{Strike, Narrow, Settle, Save, Restore}
use Rattle.sessions.specs.declared.fault.SessionFault.{SessionFault}
use Rattle.sessions.specs.declared.fault.SessionFault.TheVariants as fault

-- A session with the store it works on.
pub record World : Type 0 where
  pub standing : Standing
  -- the rules that wait, the first first
  pub agenda : List ℕ
  -- how many saves the session has of its own
  pub saves : ℕ
  -- the domains left
  pub table : Table
  -- all tables saved in the store, the newest first
  pub saved : List Table

abbrev pub is_failed : Standing → Bool
is_failed standing.Stirred = false
is_failed standing.Settled = false
is_failed standing.Failed = true

abbrev pub is_stirred : Standing → Bool
is_stirred standing.Stirred = true
is_stirred standing.Settled = false
is_stirred standing.Failed = false

-- whether a list has nothing
abbrev pub is_none : List Table → Bool
is_none [] = true
is_none (t ∷ ts) = false

-- a refusal where something holds, else what comes after it
abbrev pub when : Bool → SessionFault → Option SessionFault → Option SessionFault
when b f rest = cond b (Some f) rest

-- what a call is refused with, if with anything: n is the number of variables, `most` how many tables can be saved.
-- No store saves more than 16 tables, so a session counts its own up to 16; on the store it began with that is never met before the store is full.
abbrev pub refusal : ℕ → ℕ → World → Call → Option SessionFault
refusal n most w (Strike x v) = when (is_failed w.standing) fault.Failed (when (not (nat_lt x n)) fault.Variable (when (not (is_value v)) fault.Value None))
refusal n most w (Narrow x lo hi) = when (is_failed w.standing) fault.Failed (when (not (nat_lt x n)) fault.Variable (when (not (is_value lo && (is_value hi && int_le lo hi))) fault.Value None))
refusal n most w Settle = when (is_failed w.standing) fault.Failed None
refusal n most w Save = when (is_failed w.standing) fault.Failed (when (is_stirred w.standing) fault.Stirred (when (not (nat_lt (length w.saved) most && nat_lt w.saves 16)) (fault.Store store.Full) None))
refusal n most w Restore = when (w.saves == 0) fault.NoSave (when (is_none w.saved) (fault.Store store.NoSave) None)

-- what a rule's answer says of a beginning: its refusal, or what the later rules say
abbrev pub or_else : ℕ → Result (Unit {0}) RuleFault → Option SessionFault → Option SessionFault
or_else i (Ok u) rest = rest
or_else i (Err f) rest = Some (fault.Rule i f)

-- the lowest rule that does not fit, of the rules from number i on; else what comes after them
abbrev pub unfit : ℕ → ℕ → List Rule → Option SessionFault → Option SessionFault
unfit n i [] rest = rest
unfit n i (r ∷ rs) rest = or_else i (r.fit n) (unfit n (suc i) rs rest)

-- what a beginning is refused with, if with anything
abbrev pub refused_start : ℕ → List Rule → Table → Option SessionFault
refused_start n rules t = when (n == 0) fault.Variables (when (not (nat_le (length rules) 256)) fault.Rules (unfit n 0 rules (when (is_void n t) fault.Empty None)))

-- the variable that an order names
abbrev pub aimed : Call → Option ℕ
aimed (Strike x v) = Some x
aimed (Narrow x lo hi) = Some x
aimed Settle = None
aimed Save = None
aimed Restore = None

-- what an order leaves of a table; other calls are none
abbrev pub ordered : Call → Table → Table
ordered (Strike x v) t y w = t y w && not (y == x && equal_int w v)
ordered (Narrow x lo hi) t y w = t y w && (not (y == x) || (int_le lo w && int_le w hi))
ordered Settle t y w = t y w
ordered Save t y w = t y w
ordered Restore t y w = t y w
