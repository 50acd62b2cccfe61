-- From what a call does to what is promised of it.
use Rattle.std.proofs.Common.{◌≡◌, ◌≤◌, List, [], ◌++◌, Option, ap, ◌∙◌}
use Rattle.tables.specs.Tables.{Table, Shaped}
use Rattle.tables.specs.Stores.{Frame}
use Rattle.rules.specs.Rules.{Rule}
use Rattle.rules.specs.Banks.{Lawfully}
use Rattle.sessions.specs.declared.call.Call.{Call}
use Rattle.sessions.specs.declared.answer.Answer.{Answer}
use Rattle.sessions.specs.declared.fault.SessionFault.{SessionFault}
use Rattle.sessions.specs.Worlds.{World, refused_start}
use Rattle.sessions.specs.Histories.{History, begun, Leads}
use Rattle.sessions.proofs.Fixing.{stuck}
use Rattle.sessions.proofs.Living.{leads_on}
use Rattle.sessions.proofs.Keeping.{keeps, throughout}
use Rattle.session.specs.Meaning.{Steps, Keeps, KeepsAlong, beginning, Begins}

module _ (f : Frame) (rules : List Rule) (few : f.vars ≤ 256) (law : Lawfully rules) where
  pub begins_keeps : (t : Table) (saved : List Table) (w : World) → Shaped f.vars t → w ≡ beginning (refused_start f.vars rules t) rules t saved → Begins f rules t saved w
  begins_keeps t saved w shaped is = record {
    accepted = λ e. throughout f.vars rules few law f.most t saved [] w (begun (record { shaped = shaped; accepted = e; stands = is ∙ ap (λ (o : Option SessionFault). beginning o rules t saved) e }));
    refused = λ err e.
        let stands = is ∙ ap (λ (o : Option SessionFault). beginning o rules t saved) e in
        stuck f.vars f.most rules w (ap (λ (v : World). v.standing) stands) (ap (λ (v : World). v.saves) stands);
  }

  pub step_keeps : (c : Call) (a : Answer) (w w' : World) → Steps f rules c a w w' → Keeps f rules c a w w'
  step_keeps c a w w' step start base h lived = keeps f.vars rules few law f.most start base h w w' c a step lived

  -- a list of calls
  pub leads_keeps : (k : History) (w w' : World) → Leads f.vars f.most rules w k w' → KeepsAlong f rules k w w'
  leads_keeps k w w' leads start base h lived = throughout f.vars rules few law f.most start base (k ++ h) w' (leads_on lived leads)
