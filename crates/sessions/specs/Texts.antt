-- Calls, answers and refusals as people read them.
use Rattle.std.specs.Prelude.{ℕ, List, ◌++◌, codes}
use Rattle.std.specs.Fmt.{decimal, signed_decimal}
use Rattle.tables.specs.Texts as stores
use Rattle.rules.specs.Texts as banks
use Rattle.sessions.specs.declared.call.Call.{Call}
use Rattle.sessions.specs.declared.call.Call.TheVariants.{Strike, Narrow, Settle, Save, Restore}
use Rattle.sessions.specs.declared.answer.Answer.{Answer}
use Rattle.sessions.specs.declared.answer.Answer.TheVariants.{Done, Emptied, Settled, Failed, Refused}
use Rattle.sessions.specs.declared.fault.SessionFault.{SessionFault}
use Rattle.sessions.specs.declared.fault.SessionFault.TheVariants as fault
use Rattle.sessions.specs.Refusals.{number_of}

abbrev pub call_text : Call → List ℕ
call_text (Strike x v) = codes "strike x" ++ (decimal x ++ (codes " " ++ signed_decimal v))
call_text (Narrow x lo hi) = codes "narrow x" ++ (decimal x ++ (codes " to " ++ (signed_decimal lo ++ (codes ".." ++ signed_decimal hi))))
call_text Settle = codes "settle"
call_text Save = codes "save"
call_text Restore = codes "restore"

-- a refusal by its number
abbrev pub answer_text : Answer → List ℕ
answer_text Done = codes "ok"
answer_text Emptied = codes "failed"
answer_text (Settled runs removed) = codes "settled, " ++ (decimal runs ++ (codes " runs, " ++ (decimal removed ++ codes " removed")))
answer_text (Failed rule runs) = codes "failed at rule " ++ (decimal rule ++ (codes ", " ++ (decimal runs ++ codes " runs")))
answer_text (Refused fault) = codes "refused " ++ decimal (number_of fault)

-- what a refusal says; those of a store and of a rule in their own words
abbrev pub fault_text : SessionFault → List ℕ
fault_text fault.Variables = codes "the store has no variable"
fault_text fault.Rules = codes "the bank has more than 256 rules"
fault_text (fault.Rule rule e) = codes "rule " ++ (decimal rule ++ (codes " does not fit: " ++ banks.fault_text e))
fault_text fault.Variable = codes "the variable is not there"
fault_text fault.Value = codes "a number is no value, or lo is greater than hi"
fault_text fault.Empty = codes "a domain is empty at the beginning"
fault_text fault.Failed = codes "the session stands failed"
fault_text fault.Stirred = codes "the session stands stirred"
fault_text fault.NoSave = codes "the session has no save of its own"
fault_text (fault.Store e) = stores.fault_text e
