use Rattle.std.proofs.Common.{rules, sym, subst}
use Rattle.std.specs.Fmt.{HasWritten}
use Rattle.sessions.specs.Texts.{fault_text}
use Rattle.sessions.proofs.texts.SessionFaultDisplay.fmt.Goals as goal

pub returns-in-Rule-clause-writes : goal.returns-in-Rule-clause-writes
returns-in-Rule-clause-writes g c plain ok = subst (λ e. HasWritten g.W.Write.write_str_gives c.args.f.now (fault_text e) c.write.new.self) (sym c.in-Rule.is) (search rules)
