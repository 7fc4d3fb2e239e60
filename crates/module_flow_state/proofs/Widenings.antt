-- A late round widens only the functions that contributions are for: all others stay as they were.
use Rattle.std.proofs.Common.{◌≡◌, ℕ, Bool, true, false, cond, nat_eq, List, [], ◌∷◌, ◌++◌, Option, Some, None, refl, sym, ap, ap₂, ◌∙◌, eqb-true, eq-eqb}
use Rattle.std.specs.Prelude.{IsTrue, ◌↔◌, if◌then◌else◌}
use Rattle.type_lattice.specs.Types.{Type4, any}
use Rattle.type_lattice.specs.Inclusion.{is_same}
use Rattle.module_flow_state.specs.declared.states.FlowFun.{FlowFun}
use Rattle.module_flow_state.specs.declared.states.Contribution.{Contribution}
use Rattle.module_flow_state.specs.States.{FlowState, anys, changed, takes, widened, widened_one, widened_parameters, widened_result}
use Rattle.module_flow_calls.specs.TypeLists.{are_same}
use Rattle.module_flow_state.specs.steps.Kept.{functions_at, functions_given, others, own, taking_all, widens}
use Rattle.module_flow_state.specs.steps.Reading.{label_of}
use Rattle.module_flow_state.proofs.Widening.{anys_anys, same_itself, same_types, widened_itself}
use Rattle.module_flow_state.proofs.Skipping.{takes_each, takes_none, all_label}

-- the functions of one label, and the others
abbrev of_label : ℕ → List FlowFun → List FlowFun
of_label l [] = []
of_label l (f ∷ fs) = cond (nat_eq l f.label) (f ∷ of_label l fs) (of_label l fs)

abbrev of_others : ℕ → List FlowFun → List FlowFun
of_others l [] = []
of_others l (f ∷ fs) = cond (nat_eq l f.label) (of_others l fs) (f ∷ of_others l fs)

-- one function, widened from each of these
abbrev widens_one : FlowFun → List FlowFun → FlowFun
widens_one n [] = n
widens_one n (h ∷ hs) = widens_one (widened_one h n) hs

-- as many times a function
abbrev each_time : FlowFun → List Contribution → List FlowFun
each_time f [] = []
each_time f (g ∷ gs) = f ∷ each_time f gs

label_both : (l : ℕ) (fs gs : List FlowFun) → of_label l (fs ++ gs) ≡ of_label l fs ++ of_label l gs
label_both l [] gs = refl
label_both l (f ∷ fs) gs = by (nat_eq l f.label) (label_both l fs gs)
  where
    by : (b : Bool) → of_label l (fs ++ gs) ≡ of_label l fs ++ of_label l gs → cond b (f ∷ of_label l (fs ++ gs)) (of_label l (fs ++ gs)) ≡ cond b (f ∷ of_label l fs) (of_label l fs) ++ of_label l gs
    by true more = ap (λ xs. f ∷ xs) more
    by false more = more

labels_both : (l : ℕ) (fs gs : List FlowFun) → of_others l (fs ++ gs) ≡ of_others l fs ++ of_others l gs
labels_both l [] gs = refl
labels_both l (f ∷ fs) gs = by (nat_eq l f.label) (labels_both l fs gs)
  where
    by : (b : Bool) → of_others l (fs ++ gs) ≡ of_others l fs ++ of_others l gs → cond b (of_others l (fs ++ gs)) (f ∷ of_others l (fs ++ gs)) ≡ cond b (of_others l fs) (f ∷ of_others l fs) ++ of_others l gs
    by true more = more
    by false more = ap (λ xs. f ∷ xs) more

-- ---- widening function by function

widens_each : (n : FlowFun) (ns : FlowState) (hs : List FlowFun) → widens (n ∷ ns) hs ≡ widens_one n (of_label n.label hs) ∷ widens ns (of_others n.label hs)
widens_each n ns [] = refl
widens_each n ns (h ∷ hs) =
    by (nat_eq n.label h.label) refl (widens_each (widened_one h n) ns hs) (widens_each n (changed ns h.label (λ m. widened_one h m)) hs)
  where
    by : (b : Bool) → nat_eq n.label h.label ≡ b
        → widens (widened_one h n ∷ ns) hs ≡ widens_one (widened_one h n) (of_label h.label hs) ∷ widens ns (of_others h.label hs)
        → widens (n ∷ changed ns h.label (λ m. widened_one h m)) hs ≡ widens_one n (of_label n.label hs) ∷ widens (changed ns h.label (λ m. widened_one h m)) (of_others n.label hs)
        → widens (if b then widened_one h n ∷ ns else n ∷ changed ns h.label (λ m. widened_one h m)) hs
        ≡ widens_one n (cond b (h ∷ of_label n.label hs) (of_label n.label hs)) ∷ widens ns (cond b (of_others n.label hs) (h ∷ of_others n.label hs))
    by true e here there = here ∙ ap (λ l. widens_one (widened_one h n) (of_label l hs) ∷ widens ns (of_others l hs)) (sym (eqb-true n.label h.label e))
    by false e here there = there

-- ---- which functions contributions are for

none_at : (fs : FlowState) (l k : ℕ) → nat_eq l k ≡ false → (of_label l (functions_at fs k) ≡ []) × (of_others l (functions_at fs k) ≡ functions_at fs k)
none_at [] l k e = (refl, refl)
none_at (f ∷ fs) l k e = by (nat_eq f.label k) refl (none_at fs l k e)
  where
    other : f.label ≡ k → nat_eq l f.label ≡ false
    other q = ap (nat_eq l) q ∙ e

    by : (b : Bool) → nat_eq f.label k ≡ b → (of_label l (functions_at fs k) ≡ []) × (of_others l (functions_at fs k) ≡ functions_at fs k)
        → (of_label l (cond b (f ∷ []) (functions_at fs k)) ≡ []) × (of_others l (cond b (f ∷ []) (functions_at fs k)) ≡ cond b (f ∷ []) (functions_at fs k))
    by true q more = (ap (λ c. cond c (f ∷ []) []) (other (eqb-true f.label k q)), ap (λ c. cond c [] (f ∷ [])) (other (eqb-true f.label k q)))
    by false q more = more

given_own : (f : FlowFun) (fs : FlowState) (gs : List Contribution) → of_label f.label (functions_given (f ∷ fs) gs) ≡ each_time f (own f.label gs)
given_own f fs [] = refl
given_own f fs (g ∷ gs) =
    label_both f.label (functions_at (f ∷ fs) (label_of g)) (functions_given (f ∷ fs) gs)
    ∙ ap (λ xs. of_label f.label (functions_at (f ∷ fs) (label_of g)) ++ xs) (given_own f fs gs)
    ∙ by (nat_eq f.label (label_of g)) refl
  where
    by : (b : Bool) → nat_eq f.label (label_of g) ≡ b → of_label f.label (cond b (f ∷ []) (functions_at fs (label_of g))) ++ each_time f (own f.label gs) ≡ each_time f (cond b (g ∷ own f.label gs) (own f.label gs))
    by true e = ap (λ c. cond c (f ∷ []) [] ++ each_time f (own f.label gs)) (eq-eqb f.label f.label refl)
    by false e = ap (λ xs. xs ++ each_time f (own f.label gs)) (none_at fs f.label (label_of g) e).0

given_others : (f : FlowFun) (fs : FlowState) (gs : List Contribution) → of_others f.label (functions_given (f ∷ fs) gs) ≡ functions_given fs (others f.label gs)
given_others f fs [] = refl
given_others f fs (g ∷ gs) =
    labels_both f.label (functions_at (f ∷ fs) (label_of g)) (functions_given (f ∷ fs) gs)
    ∙ ap (λ xs. of_others f.label (functions_at (f ∷ fs) (label_of g)) ++ xs) (given_others f fs gs)
    ∙ by (nat_eq f.label (label_of g)) refl
  where
    by : (b : Bool) → nat_eq f.label (label_of g) ≡ b → of_others f.label (cond b (f ∷ []) (functions_at fs (label_of g))) ++ functions_given fs (others f.label gs)
        ≡ functions_given fs (cond b (others f.label gs) (g ∷ others f.label gs))
    by true e = ap (λ c. cond c [] (f ∷ []) ++ functions_given fs (others f.label gs)) (eq-eqb f.label f.label refl)
    by false e = ap (λ xs. xs ++ functions_given fs (others f.label gs)) (none_at fs f.label (label_of g) e).1

module _ (same : (s t : Type4) → IsTrue (is_same s t) ↔ (s ≡ t)) where
  -- ---- widening twice

  parameters_twice : (p q : Option (List Type4)) → widened_parameters p (widened_parameters p q) ≡ widened_parameters p q
  parameters_twice None None = refl
  parameters_twice None (Some us) = ap Some (anys_anys us)
  parameters_twice (Some us) None = ap (λ b. Some (cond b us (anys us))) (same_itself same us)
  parameters_twice (Some us) (Some ws) = by (are_same us ws)
    where
      again : (b : Bool) → are_same us (anys us) ≡ b → Some (cond b us (anys us)) ≡ Some (anys us)
      again true e = ap Some (same_types same us (anys us) e)
      again false e = refl

      by : (b : Bool) → widened_parameters (Some us) (Some (cond b us (anys us))) ≡ Some (cond b us (anys us))
      by true = ap (λ b. Some (cond b us (anys us))) (same_itself same us)
      by false = again (are_same us (anys us)) refl

  result_twice : (r t : Type4) → widened_result r (widened_result r t) ≡ widened_result r t
  result_twice r t = by (is_same r t)
    where
      again : (b : Bool) → is_same r any ≡ b → cond b r any ≡ any
      again true e = (same r any).0 e
      again false e = refl

      by : (b : Bool) → widened_result r (cond b r any) ≡ cond b r any
      by true = ap (λ b. cond b r any) ((same r r).1 refl)
      by false = again (is_same r any) refl

  one_twice : (f n : FlowFun) → widened_one f (widened_one f n) ≡ widened_one f n
  one_twice f n = λ i. record { label = f.label; name = f.name; params = parameters_twice f.params n.params i; result = result_twice f.result n.result i }

  wide_stays : (f n : FlowFun) (gs : List Contribution) → widens_one (widened_one f n) (each_time f gs) ≡ widened_one f n
  wide_stays f n [] = refl
  wide_stays f n (g ∷ gs) = ap (λ m. widens_one m (each_time f gs)) (one_twice f n) ∙ wide_stays f n gs

  one_itself : (f : FlowFun) → widened_one f f ≡ f
  one_itself f = let e : widened_one f f ∷ [] ≡ f ∷ [] = widened_itself same (f ∷ []) in cc

  -- a function with the contributions for it
  one_widened : (f : FlowFun) (gs : List Contribution) → widens_one (taking_all f gs) (each_time f gs) ≡ widened_one f (taking_all f gs)
  one_widened f [] = sym (one_itself f)
  one_widened f (g ∷ gs) = wide_stays f (taking_all f (g ∷ gs)) gs

  none_given : (gs : List Contribution) → functions_given [] gs ≡ []
  none_given [] = refl
  none_given (g ∷ gs) = none_given gs

  pub widens_given : (st : FlowState) (gs : List Contribution) → widens (takes st gs) (functions_given st gs) ≡ widened st (takes st gs)
  widens_given [] gs = ap₂ widens (takes_none gs) (none_given gs)
  widens_given (f ∷ fs) gs =
      let n = taking_all f (own f.label gs) in
      let ns = takes fs (others f.label gs) in
      let hs = functions_given (f ∷ fs) gs in
      ap (λ st. widens st hs) (takes_each f fs gs)
      ∙ widens_each n ns hs
      ∙ ap (λ l. widens_one n (of_label l hs) ∷ widens ns (of_others l hs)) (all_label f (own f.label gs))
      ∙ ap₂ (λ xs ys. widens_one n xs ∷ widens ns ys) (given_own f fs gs) (given_others f fs gs)
      ∙ ap₂ (λ x xs. x ∷ xs) (one_widened f (own f.label gs)) (widens_given fs (others f.label gs))
      ∙ sym (ap (widened (f ∷ fs)) (takes_each f fs gs))
