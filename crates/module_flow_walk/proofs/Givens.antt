-- What walks give, one after another, and what is noted where they give values.
use Rattle.std.proofs.Common.{◌≡◌, Bool, true, false, ◌&&◌, cond, List, ◌++◌, Some, None, is_some, refl, sym, ap, ◌∙◌}
use Rattle.type_lattice.specs.Types.{Type4}
use Rattle.warn_list.specs.declared.finding.Finding.{Finding}
use Rattle.module_flow_state.specs.declared.states.Contribution.{Contribution}
use Rattle.module_flow_state.specs.declared.walk.FlowWalk.{FlowWalk}
use Rattle.module_flow_calls.specs.TypeLists.{Given, first}
use Rattle.module_flow_walk.specs.Walk.{then}
use Rattle.module_flow_state.specs.steps.Walking.{noting}

-- ---- what is noted

pub noting_as : (w w1 : FlowWalk) (gs hs : List Contribution) (fs is : List Finding) → gs ≡ hs → fs ≡ is → w1 ≡ noting w gs fs → w1 ≡ noting w hs is
noting_as w w1 gs hs fs is contributions found one = one ∙ ap (λ xs. noting w xs fs) contributions ∙ ap (noting w hs) found

-- ---- loops in which all has to be given

-- types so far, where all gave some, and what the rest gives
abbrev pub all_given : Bool → List Type4 → Given → Given
all_given all ts g = cond all (then g (λ us. Some (ts ++ us))) None

-- the same, where no type is asked
and_assoc : (a b c : Bool) → ((a && b) && c) ≡ (a && (b && c))
and_assoc true b c = refl
and_assoc false b c = refl

pub some_then : (g : Given) (h : Given) → is_some (then g (λ us. h)) ≡ (is_some g && is_some h)
some_then None h = refl
some_then (Some us) h = refl

pub both_round : (all one two : Bool) (g h rest : Given) → one ≡ is_some g → two ≡ is_some h → (((all && one) && two) && is_some rest) ≡ (all && is_some (then g (λ us. then h (λ vs. rest))))
both_round all one two g h rest first second =
    ap (λ b. ((all && b) && two) && is_some rest) first ∙ ap (λ b. ((all && is_some g) && b) && is_some rest) second
    ∙ and_assoc (all && is_some g) (is_some h) (is_some rest) ∙ and_assoc all (is_some g) (is_some h && is_some rest)
    ∙ ap (λ b. all && b) (ap (λ b. is_some g && b) (sym (some_then h rest)) ∙ sym (some_then g (then h (λ vs. rest))))
