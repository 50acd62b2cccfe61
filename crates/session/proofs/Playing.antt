-- A list of calls that is played: one more of them.
use Rattle.std.proofs.Common.{◌≡◌, ℕ, zero, suc, ◌+◌, ◌<◌, ◌≤◌, ◌≢◌, List, [], ◌∷◌, length, get_or, drop, set, sym, refl, ap, ◌∙◌, subst, ap₂, le_of_suc-le-suc, not-suc-le-zero, add-one, arith}
use Rattle.std.proofs.lemmas.List.{get_or-set_same, get_or-set_other, drop-set-lt, drop-drop}
use Rattle.tables.specs.Stores.{Frame}
use Rattle.rules.specs.Rules.{Rule}
use Rattle.sessions.specs.declared.call.Call.{Call}
use Rattle.sessions.specs.declared.call.Call.TheVariants.{Settle}
use Rattle.sessions.specs.declared.answer.Answer.{Answer}
use Rattle.sessions.specs.declared.answer.Answer.TheVariants.{Done}
use Rattle.sessions.specs.Worlds.{World}
use Rattle.sessions.specs.Histories.{History, Leads, goes}
use Rattle.session.specs.Meaning.{Steps, events}

-- an answer that is written later changes no earlier event
events_set : (calls : List Call) (answers : List Answer) (j k : ℕ) (a : Answer) → k ≤ j → events calls (set answers j a) k ≡ events calls answers k
events_set calls answers j zero a l = refl
events_set calls answers j (suc k) a l =
    let ne : k ≢ j = omega arith in
    ap₂ (λ (b : Answer) (h : History). record { call = get_or calls k Settle; answer = b } ∷ h) (get_or-set_other answers j k a Done ne) (events_set calls answers j k a (omega arith))

-- one more call with its answer
pub events_more : (calls : List Call) (answers : List Answer) (k : ℕ) (a : Answer) → k < length answers → events calls (set answers k a) (k + 1) ≡ record { call = get_or calls k Settle; answer = a } ∷ events calls answers k
events_more calls answers k a l =
    ap (λ m. events calls (set answers k a) m) (add-one k)
    ∙ ap₂ (λ (b : Answer) (h : History). record { call = get_or calls k Settle; answer = b } ∷ h) (get_or-set_same answers k a Done l) (events_set calls answers k k a (omega arith))

-- what is left of a list does not depend on what stands before it
pub rest_same : (xs ys : List Answer) (k : ℕ) (a : Answer) → drop k xs ≡ drop k ys → drop (k + 1) (set xs k a) ≡ drop (k + 1) ys
rest_same xs ys k a e =
    drop-set-lt (k + 1) xs k a (omega arith) ∙ more xs ∙ ap (λ (l : List Answer). drop 1 l) e ∙ sym (more ys)
  where
    more : (l : List Answer) → drop (k + 1) l ≡ drop 1 (drop k l)
    more l = sym (drop-drop 1 k l)

-- an element that is there, whatever stands for one that is not
in_range : (xs : List Call) (k : ℕ) (d e : Call) → k < length xs → get_or xs k d ≡ get_or xs k e
in_range [] k d e l = absurd (not-suc-le-zero l)
in_range (x ∷ xs) zero d e l = refl
in_range (x ∷ xs) (suc k) d e l = in_range xs k d e (le_of_suc-le-suc l)

pub leads_more : (f e : Frame) (rules : List Rule) (w v v' : World) (calls : List Call) (answers : List Answer) (k : ℕ) (a : Answer) (d : Call) → e ≡ f → k < length answers → k < length calls → Leads f.vars f.most rules w (events calls answers k) v → Steps e rules (get_or calls k d) a v v' → Leads f.vars f.most rules w (events calls (set answers k a) (k + 1)) v'
leads_more f e rules w v v' calls answers k a d same l m leads step =
    subst (λ (h : History). Leads f.vars f.most rules w h v') (sym (events_more calls answers k a l))
    (goes leads (subst (λ (x : Call). Steps f rules x a v v') (in_range calls k d Settle m) (subst (λ (h : Frame). Steps h rules (get_or calls k d) a v v') same step)))
