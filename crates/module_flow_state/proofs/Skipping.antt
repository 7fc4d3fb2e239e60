-- Rounds of whole states: contributions that a state has taken in for good may be left out.
use Rattle.std.proofs.Common.{◌≡◌, ℕ, suc, Bool, true, false, cond, nat_eq, List, [], ◌∷◌, ◌++◌, refl, sym, ap, ap₂, ◌∙◌, subst}
use Rattle.std.specs.Prelude.{nat_lt}
use Rattle.module_flow_state.specs.declared.states.FlowFun.{FlowFun}
use Rattle.module_flow_state.specs.declared.states.Contribution.{Contribution}
use Rattle.module_flow_state.specs.declared.states.Contribution.TheVariants.{Enters, Returns}
use Rattle.module_flow_state.specs.States.{FlowState, takes, takes_one, widened, widened_one, next_state, joined_rounds}
use Rattle.module_flow_state.specs.steps.Kept.{HasAll, KeptIn, next_one, others, own, taking, taking_all}
use Rattle.module_flow_state.specs.steps.Reading.{label_of}
use Rattle.module_flow_state.proofs.Absorbing.{JoinFacts, has_given, has_all_still, skips}

own_both : (l : ℕ) (gs hs : List Contribution) → own l (gs ++ hs) ≡ own l gs ++ own l hs
own_both l [] hs = refl
own_both l (g ∷ gs) hs = by (nat_eq l (label_of g)) (own_both l gs hs)
  where
    by : (b : Bool) → own l (gs ++ hs) ≡ own l gs ++ own l hs → cond b (g ∷ own l (gs ++ hs)) (own l (gs ++ hs)) ≡ cond b (g ∷ own l gs) (own l gs) ++ own l hs
    by true more = ap (λ xs. g ∷ xs) more
    by false more = more

others_both : (l : ℕ) (gs hs : List Contribution) → others l (gs ++ hs) ≡ others l gs ++ others l hs
others_both l [] hs = refl
others_both l (g ∷ gs) hs = by (nat_eq l (label_of g)) (others_both l gs hs)
  where
    by : (b : Bool) → others l (gs ++ hs) ≡ others l gs ++ others l hs → cond b (others l (gs ++ hs)) (g ∷ others l (gs ++ hs)) ≡ cond b (others l gs) (g ∷ others l gs) ++ others l hs
    by true more = more
    by false more = ap (λ xs. g ∷ xs) more

own_three : (l : ℕ) (hs gs cs : List Contribution) → own l (hs ++ (gs ++ cs)) ≡ own l hs ++ (own l gs ++ own l cs)
own_three l hs gs cs = own_both l hs (gs ++ cs) ∙ ap (λ xs. own l hs ++ xs) (own_both l gs cs)

others_three : (l : ℕ) (hs gs cs : List Contribution) → others l (hs ++ (gs ++ cs)) ≡ others l hs ++ (others l gs ++ others l cs)
others_three l hs gs cs = others_both l hs (gs ++ cs) ∙ ap (λ xs. others l hs ++ xs) (others_both l gs cs)

-- ---- a state takes contributions function by function

takes_head : (f : FlowFun) (fs : FlowState) (g : Contribution) → takes_one (f ∷ fs) g ≡ cond (nat_eq f.label (label_of g)) (taking f g ∷ fs) (f ∷ takes_one fs g)
takes_head f fs (Enters l ts) = refl
takes_head f fs (Returns l t) = refl

taking_label : (f : FlowFun) (g : Contribution) → (taking f g).label ≡ f.label
taking_label f (Enters l ts) = refl
taking_label f (Returns l t) = refl

pub takes_each : (f : FlowFun) (fs : FlowState) (gs : List Contribution) → takes (f ∷ fs) gs ≡ taking_all f (own f.label gs) ∷ takes fs (others f.label gs)
takes_each f fs [] = refl
takes_each f fs (g ∷ gs) =
    ap (λ st. takes st gs) (takes_head f fs g)
    ∙ by (nat_eq f.label (label_of g))
    (takes_each (taking f g) fs gs ∙ ap (λ l. taking_all (taking f g) (own l gs) ∷ takes fs (others l gs)) (taking_label f g))
    (takes_each f (takes_one fs g) gs)
  where
    by : (b : Bool) → takes (taking f g ∷ fs) gs ≡ taking_all (taking f g) (own f.label gs) ∷ takes fs (others f.label gs)
        → takes (f ∷ takes_one fs g) gs ≡ taking_all f (own f.label gs) ∷ takes (takes_one fs g) (others f.label gs)
        → takes (cond b (taking f g ∷ fs) (f ∷ takes_one fs g)) gs ≡ taking_all f (cond b (g ∷ own f.label gs) (own f.label gs)) ∷ takes fs (cond b (others f.label gs) (g ∷ others f.label gs))
    by true here there = here
    by false here there = there

next_each : (k : ℕ) (f n : FlowFun) (fs ns : FlowState) → next_state k (f ∷ fs) (n ∷ ns) ≡ next_one k f n ∷ next_state k fs ns
next_each k f n fs ns = by (nat_lt k joined_rounds)
  where
    by : (b : Bool) → cond b (n ∷ ns) (widened_one f n ∷ widened fs ns) ≡ cond b n (widened_one f n) ∷ cond b ns (widened fs ns)
    by true = refl
    by false = refl

next_none : (k : ℕ) → next_state k [] [] ≡ []
next_none k = by (nat_lt k joined_rounds)
  where
    by : (b : Bool) → cond {A = FlowState} b [] [] ≡ []
    by true = refl
    by false = refl

pub takes_none : (gs : List Contribution) → takes [] gs ≡ []
takes_none [] = refl
takes_none (Enters l ts ∷ gs) = takes_none gs
takes_none (Returns l t ∷ gs) = takes_none gs

-- the state after a round in which it took these contributions
abbrev pub after : ℕ → FlowState → List Contribution → FlowState
after k st gs = next_state k st (takes st gs)

after_none : (k : ℕ) (gs : List Contribution) → after k [] gs ≡ []
after_none k gs = ap (next_state k []) (takes_none gs) ∙ next_none k

pub after_each : (k : ℕ) (f : FlowFun) (fs : FlowState) (gs : List Contribution) → after k (f ∷ fs) gs ≡ next_one k f (taking_all f (own f.label gs)) ∷ after k fs (others f.label gs)
after_each k f fs gs =
    ap (next_state k (f ∷ fs)) (takes_each f fs gs)
    ∙ next_each k f (taking_all f (own f.label gs)) fs (takes fs (others f.label gs))

pub all_label : (f : FlowFun) (gs : List Contribution) → (taking_all f gs).label ≡ f.label
all_label f [] = refl
all_label f (g ∷ gs) = all_label (taking f g) gs ∙ taking_label f g

next_label : (k : ℕ) (f n : FlowFun) → n.label ≡ f.label → (next_one k f n).label ≡ f.label
next_label k f n e = by (nat_lt k joined_rounds)
  where
    by : (b : Bool) → (cond b n (widened_one f n)).label ≡ f.label
    by true = e
    by false = refl

module _ (F : JoinFacts) where
  -- a round without contributions that the state has taken in
  pub after_skips : (k : ℕ) (st : FlowState) (hs bs cs : List Contribution) → KeptIn k st bs → after k st (hs ++ (bs ++ cs)) ≡ after k st (hs ++ cs)
  after_skips k [] hs bs cs h = after_none k (hs ++ (bs ++ cs)) ∙ sym (after_none k (hs ++ cs))
  after_skips k (f ∷ fs) hs bs cs h =
      after_each k f fs (hs ++ (bs ++ cs))
      ∙ ap₂ (λ x xs. x ∷ xs)
      (ap (λ gs. next_one k f (taking_all f gs)) (own_three f.label hs bs cs)
      ∙ skips F k f (own f.label hs) (own f.label bs) (own f.label cs) h.0
      ∙ ap (λ gs. next_one k f (taking_all f gs)) (sym (own_both f.label hs cs)))
      (ap (after k fs) (others_three f.label hs bs cs)
      ∙ after_skips k fs (others f.label hs) (others f.label bs) (others f.label cs) h.1
      ∙ ap (after k fs) (sym (others_both f.label hs cs)))
      ∙ sym (after_each k f fs (hs ++ cs))

  kept_head : (k : ℕ) (f : FlowFun) (fs : FlowState) (l : ℕ) (bs : List Contribution) → f.label ≡ l → HasAll k f (own l bs) → KeptIn k fs (others l bs) → KeptIn k (f ∷ fs) bs
  kept_head k f fs l bs e h t = subst (λ i. HasAll k f (own i bs) × KeptIn k fs (others i bs)) (sym e) (h, t)

  -- what a state was given it has taken in
  pub kept_given : (k : ℕ) (st : FlowState) (hs bs cs : List Contribution) → KeptIn (suc k) (after k st (hs ++ (bs ++ cs))) bs
  kept_given k [] hs bs cs = subst (λ s. KeptIn (suc k) s bs) (sym (after_none k (hs ++ (bs ++ cs)))) tt
  kept_given k (f ∷ fs) hs bs cs =
      let gs = hs ++ (bs ++ cs) in
      let n = next_one k f (taking_all f (own f.label gs)) in
      subst (λ s. KeptIn (suc k) s bs) (sym (after_each k f fs gs))
      (kept_head (suc k) n (after k fs (others f.label gs)) f.label bs (next_label k f (taking_all f (own f.label gs)) (all_label f (own f.label gs)))
      (subst (λ xs. HasAll (suc k) (next_one k f (taking_all f xs)) (own f.label bs)) (sym (own_three f.label hs bs cs)) (has_given F k f (own f.label hs) (own f.label bs) (own f.label cs)))
      (subst (λ xs. KeptIn (suc k) (after k fs xs) (others f.label bs)) (sym (others_three f.label hs bs cs)) (kept_given k fs (others f.label hs) (others f.label bs) (others f.label cs))))

  -- and what it had
  pub kept_still : (k : ℕ) (st : FlowState) (gs bs : List Contribution) → KeptIn k st bs → KeptIn (suc k) (after k st gs) bs
  kept_still k [] gs bs h = subst (λ s. KeptIn (suc k) s bs) (sym (after_none k gs)) tt
  kept_still k (f ∷ fs) gs bs h =
      let n = next_one k f (taking_all f (own f.label gs)) in
      subst (λ s. KeptIn (suc k) s bs) (sym (after_each k f fs gs))
      (kept_head (suc k) n (after k fs (others f.label gs)) f.label bs (next_label k f (taking_all f (own f.label gs)) (all_label f (own f.label gs)))
      (has_all_still F k f (own f.label gs) (own f.label bs) h.0)
      (kept_still k fs (others f.label gs) (others f.label bs) h.1))
