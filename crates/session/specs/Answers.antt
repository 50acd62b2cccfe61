-- The answers of a session's calls, as answers of a history.
use Rattle.std.specs.Prelude.{ℕ, Some, None, Ok, Err, Option, Result}
use Rattle.sessions.specs.declared.fault.SessionFault.{SessionFault}
use Rattle.sessions.specs.declared.answer.Answer.{Answer}
use Rattle.sessions.specs.declared.answer.Answer.TheVariants as answer
use Rattle.sessions.specs.Steps.{Outcome, settled, failed}
use Rattle.session.specs.declared.failure.Failure.{Failure}
use Rattle.session.specs.declared.outcome.Ordered.{Ordered}
use Rattle.session.specs.declared.outcome.Ordered.TheVariants as ordered
use Rattle.session.specs.declared.outcome.Propagated.{Propagated}
use Rattle.session.specs.declared.outcome.Propagated.TheVariants as propagated

abbrev pub answer_of_order : Result Ordered SessionFault → Answer
answer_of_order (Ok ordered.Done) = answer.Done
answer_of_order (Ok ordered.Emptied) = answer.Emptied
answer_of_order (Err f) = answer.Refused f

abbrev pub answer_of_settle : Result Propagated SessionFault → Answer
answer_of_settle (Ok (propagated.Settled k m)) = answer.Settled k m
answer_of_settle (Ok (propagated.Failed i k)) = answer.Failed i k
answer_of_settle (Err f) = answer.Refused f

abbrev pub answer_of_plain : Result (Unit {0}) SessionFault → Answer
answer_of_plain (Ok u) = answer.Done
answer_of_plain (Err f) = answer.Refused f

-- how many runs were made, and how they ended
abbrev pub runs_of : Result ℕ Failure → ℕ
runs_of (Ok k) = k
runs_of (Err f) = f.runs

abbrev pub end_of : Result ℕ Failure → Outcome
end_of (Ok k) = settled
end_of (Err f) = failed f.rule

-- what a check answers
abbrev pub verdict : Option SessionFault → Result (Unit {0}) SessionFault
verdict None = Ok tt
verdict (Some f) = Err f

-- a refusal, or what comes after it
abbrev pub or_rest : Result (Unit {0}) SessionFault → Option SessionFault → Option SessionFault
or_rest (Ok u) rest = rest
or_rest (Err f) rest = Some f
