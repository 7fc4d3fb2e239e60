-- What walks give and note where steps are seen through, and in loops.
use Rattle.std.proofs.Common.{◌≡◌, Bool, true, false, cond, List, [], Option, None, Result, IfOk, sym, ap, ◌∙◌}
use Rattle.std.proofs.lemmas.Result.{IfOk-weaker}
use Rattle.type_kinds.specs.declared.memory.Memory.{Memory}
use Rattle.warn_list.specs.declared.finding.Finding.{Finding}
use Rattle.module_flow_state.specs.declared.states.Contribution.{Contribution}
use Rattle.module_flow_state.specs.declared.walk.FlowWalk.{FlowWalk}
use Rattle.module_flow_calls.specs.TypeLists.{Given}
use Rattle.module_flow_walk.specs.Contributions.{where_seen}
use Rattle.module_flow_state.specs.Scopes.{WalkScope}
use Rattle.module_flow_walk.specs.Walk.{then_seen}
use Rattle.module_flow_state.specs.steps.Walking.{noting}
use Rattle.module_flow_walk.specs.steps.Walked.{sees}
use Rattle.module_flow_state.proofs.Notes.{noting_none}

-- ---- answers

-- the same answer, told in another way
pub told : (r : Result Given Memory) (g h : Given) → g ≡ h → IfOk r (λ x. x ≡ g) → IfOk r (λ x. x ≡ h)
told r g h e = IfOk-weaker r (λ x. x ≡ g) (λ x. x ≡ h) (λ x k. k ∙ e)

-- ---- notes

pub none_noted : (w : FlowWalk) (gs : List Contribution) (fs : List Finding) → gs ≡ [] → fs ≡ [] → w ≡ noting w gs fs
none_noted w gs fs e f = sym (ap (λ hs. noting w hs fs) e ∙ ap (noting w []) f ∙ noting_none w)

-- and its end, where nothing is left
pub ended : (w goal : FlowWalk) (gs : List Contribution) (fs : List Finding) → gs ≡ [] → fs ≡ [] → noting w gs fs ≡ goal → w ≡ goal
ended w goal gs fs e f h = none_noted w gs fs e f ∙ h

-- ---- what follows where steps are seen through

pub seen_given : (there : Bool) (o : Option WalkScope) (sc : WalkScope) (f : WalkScope → Given) → o ≡ sees there sc → cond there (f sc) None ≡ then_seen o f
seen_given true o sc f is = sym (ap (λ z. then_seen z f) is)
seen_given false o sc f is = sym (ap (λ z. then_seen z f) is)

pub seen_list : {A : Type 0} (there : Bool) (o : Option WalkScope) (sc : WalkScope) (f : WalkScope → List A) → o ≡ sees there sc → cond there (f sc) [] ≡ where_seen o f
seen_list true o sc f is = sym (ap (λ z. where_seen z f) is)
seen_list false o sc f is = sym (ap (λ z. where_seen z f) is)
