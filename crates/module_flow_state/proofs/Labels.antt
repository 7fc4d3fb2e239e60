-- The labels of the functions of a state stay.
use Rattle.std.proofs.Common.{◌≡◌, ℕ, suc, Bool, true, false, cond, List, [], ◌∷◌, length, refl, sym, ap, ◌∙◌, arith}
use Rattle.std.specs.Prelude.{nat_lt, nat_eq, if◌then◌else◌}
use Rattle.module_flow_state.specs.declared.states.FlowFun.{FlowFun}
use Rattle.module_flow_state.specs.declared.states.Contribution.{Contribution}
use Rattle.module_flow_state.specs.declared.states.Contribution.TheVariants.{Enters, Returns}
use Rattle.module_flow_state.specs.Settled.{labels_of}
use Rattle.module_flow_state.specs.States.{FlowState, changed, entered, joined_rounds, next_state, returning, takes, takes_one, widened}

changed_labels : (fs : FlowState) (l : ℕ) (change : FlowFun → FlowFun) → ((f : FlowFun) → (change f).label ≡ f.label) → labels_of (changed fs l change) ≡ labels_of fs
changed_labels [] l change h = refl
changed_labels (f ∷ fs) l change h = by (nat_eq f.label l) (changed_labels fs l change h)
  where
    by : (b : Bool) → labels_of (changed fs l change) ≡ labels_of fs → labels_of (if b then change f ∷ fs else f ∷ changed fs l change) ≡ f.label ∷ labels_of fs
    by true more = ap (λ k. k ∷ labels_of fs) (h f)
    by false more = ap (λ ks. f.label ∷ ks) more

pub one_labels : (st : FlowState) (g : Contribution) → labels_of (takes_one st g) ≡ labels_of st
one_labels st (Enters l ts) = changed_labels st l (λ f. entered f ts) (λ f. refl)
one_labels st (Returns l t) = changed_labels st l (λ f. returning f t) (λ f. refl)

pub takes_labels : (st : FlowState) (gs : List Contribution) → labels_of (takes st gs) ≡ labels_of st
takes_labels st [] = refl
takes_labels st (g ∷ gs) = takes_labels (takes_one st g) gs ∙ one_labels st g

labels_length : (fs : FlowState) → length (labels_of fs) ≡ length fs
labels_length [] = refl
labels_length (f ∷ fs) = ap suc (labels_length fs)

pub same_length : (fs gs : FlowState) → labels_of gs ≡ labels_of fs → length gs ≡ length fs
same_length fs gs e = sym (labels_length gs) ∙ ap length e ∙ labels_length fs

pub takes_length : (st : FlowState) (gs : List Contribution) → length (takes st gs) ≡ length st
takes_length st gs = same_length st (takes st gs) (takes_labels st gs)

widened_labels : (fs ns : FlowState) → length ns ≡ length fs → labels_of (widened fs ns) ≡ labels_of fs
widened_labels [] ns e = refl
widened_labels (f ∷ fs) [] e = absurd cc
widened_labels (f ∷ fs) (n ∷ ns) e = ap (λ ks. f.label ∷ ks) (widened_labels fs ns (omega (arith, e)))

pub next_labels : (k : ℕ) (st made : FlowState) → labels_of made ≡ labels_of st → labels_of (next_state k st made) ≡ labels_of st
next_labels k st made e = by (nat_lt k joined_rounds)
  where
    by : (b : Bool) → labels_of (cond b made (widened st made)) ≡ labels_of st
    by true = e
    by false = widened_labels st made (same_length st made e)
