-- A state that a late round leaves unchanged has taken in what its walk gives.
use Rattle.std.proofs.Common.{◌≡◌, ℕ, Bool, true, false, cond, ◌||◌, List, [], ◌∷◌, Option, Some, None, refl, sym, ap, ◌∙◌, subst, true≢false}
use Rattle.std.specs.Prelude.{IsTrue, ◌↔◌, nat_eq, if◌then◌else◌}
use Rattle.type_lattice.specs.Types.{Type4, Below, any, none, join}
use Rattle.type_lattice.specs.Inclusion.{is_same}
use Rattle.cons_tree.specs.Facts.{TypeFacts}
use Rattle.module_flow_state.specs.declared.states.FlowFun.{FlowFun}
use Rattle.module_flow_state.specs.declared.states.Contribution.{Contribution}
use Rattle.module_flow_state.specs.declared.states.Contribution.TheVariants.{Enters, Returns}
use Rattle.module_flow_state.specs.Settled.{AreTaken, EachBelow, IsTaken, labels_of, stands}
use Rattle.module_flow_state.specs.States.{FlowState, anys, changed, entered, entered_with, parameters_of, result_of, returning, takes, takes_one, widened, widened_parameters, widened_result}
use Rattle.module_flow_calls.specs.TypeLists.{are_same, joins}
use Rattle.module_flow_state.proofs.Labels.{one_labels, takes_labels}
use Rattle.module_flow_state.proofs.Widening.{same_types}

-- ---- which functions stand in a state

among : List ℕ → ℕ → Bool
among [] l = false
among (k ∷ ks) l = nat_eq k l || among ks l

stands_among : (fs : FlowState) (l : ℕ) → stands fs l ≡ among (labels_of fs) l
unfolding among
stands_among [] l = refl
stands_among (f ∷ fs) l = ap (λ b. nat_eq f.label l || b) (stands_among fs l)

pub same_stands : (fs gs : FlowState) (l : ℕ) → labels_of gs ≡ labels_of fs → stands gs l ≡ stands fs l
same_stands fs gs l e = stands_among gs l ∙ ap (λ ks. among ks l) e ∙ sym (stands_among fs l)

-- ---- types that others cover: no more of them, and each above

abbrev pub Covers : (ts us : List Type4) → Type 0
Covers ts [] = Unit {0}
Covers [] (u ∷ us) = ⊥
Covers (t ∷ ts) (u ∷ us) = Below t u × Covers ts us

-- a function's parameters before and after more is taken in
abbrev pub Grow : (old new : Option (List Type4)) → Type 0
Grow None new = Unit {0}
Grow (Some ts) None = ⊥
Grow (Some ts) (Some us) = Covers ts us

pub covers_itself : (ts : List Type4) → Covers ts ts
covers_itself [] = tt
covers_itself (t ∷ ts) = (λ v h. h, covers_itself ts)

pub covers_through : (ts us ws : List Type4) → Covers ts us → Covers us ws → Covers ts ws
covers_through ts us [] a b = tt
covers_through ts [] (w ∷ ws) a b = absurd b
covers_through [] (u ∷ us) (w ∷ ws) a b = absurd a
covers_through (t ∷ ts) (u ∷ us) (w ∷ ws) a b = (λ v h. b.0 v (a.0 v h), covers_through ts us ws a.1 b.1)

pub grow_itself : (p : Option (List Type4)) → Grow p p
grow_itself None = tt
grow_itself (Some ts) = covers_itself ts

pub grow_through : (p q r : Option (List Type4)) → Grow p q → Grow q r → Grow p r
grow_through None q r a b = tt
grow_through (Some ts) None r a b = absurd a
grow_through (Some ts) (Some us) None a b = absurd b
grow_through (Some ts) (Some us) (Some ws) a b = covers_through ts us ws a b

each_below : (ts us : List Type4) → Covers ts us → EachBelow ts us
each_below [] us h = tt
each_below (t ∷ ts) [] h = tt
each_below (t ∷ ts) (u ∷ us) h = (h.0, each_below ts us h.1)

-- ---- one function of a state is changed

grow_chosen : (b : Bool) (p q r s : Option (List Type4)) → Grow p q → Grow r s → Grow (if b then p else r) (if b then q else s)
grow_chosen true p q r s a c = a
grow_chosen false p q r s a c = c

below_chosen : (b : Bool) (p q r s : Type4) → Below p q → Below r s → Below (if b then p else r) (if b then q else s)
below_chosen true p q r s a c = a
below_chosen false p q r s a c = c

module _ (change : FlowFun → FlowFun) (keeps : (f : FlowFun) → (change f).label ≡ f.label) where
  grown_parameters : ((f : FlowFun) → Grow f.params (change f).params) → (fs : FlowState) (l k : ℕ) → Grow (parameters_of fs k) (parameters_of (changed fs l change) k)
  grown_parameters grows [] l k = tt
  grown_parameters grows (f ∷ fs) l k = by (nat_eq f.label l) (grown_parameters grows fs l k)
    where
      by : (b : Bool) → Grow (parameters_of fs k) (parameters_of (changed fs l change) k) → Grow (parameters_of (f ∷ fs) k) (parameters_of (if b then change f ∷ fs else f ∷ changed fs l change) k)
      by true more =
          subst (λ j. Grow (parameters_of (f ∷ fs) k) (if nat_eq j k then (change f).params else parameters_of fs k)) (sym (keeps f))
          (grow_chosen (nat_eq f.label k) f.params (change f).params (parameters_of fs k) (parameters_of fs k) (grows f) (grow_itself (parameters_of fs k)))
      by false more =
          grow_chosen (nat_eq f.label k) f.params f.params (parameters_of fs k) (parameters_of (changed fs l change) k) (grow_itself f.params) more

  grown_result : ((f : FlowFun) → Below f.result (change f).result) → (fs : FlowState) (l k : ℕ) → Below (result_of fs k) (result_of (changed fs l change) k)
  grown_result grows [] l k = λ v h. h
  grown_result grows (f ∷ fs) l k = by (nat_eq f.label l) (grown_result grows fs l k)
    where
      by : (b : Bool) → Below (result_of fs k) (result_of (changed fs l change) k) → Below (result_of (f ∷ fs) k) (result_of (if b then change f ∷ fs else f ∷ changed fs l change) k)
      by true more =
          subst (λ j. Below (result_of (f ∷ fs) k) (if nat_eq j k then (change f).result else result_of fs k)) (sym (keeps f))
          (below_chosen (nat_eq f.label k) f.result (change f).result (result_of fs k) (result_of fs k) (grows f) (λ v h. h))
      by false more =
          below_chosen (nat_eq f.label k) f.result f.result (result_of fs k) (result_of (changed fs l change) k) (λ v h. h) more

-- what a function that stands in the state is entered with, and what it gives
entered_at : (fs : FlowState) (l : ℕ) (ts : List Type4) → stands fs l ≡ true → parameters_of (changed fs l (λ f. entered f ts)) l ≡ entered_with (parameters_of fs l) ts
entered_at [] l ts s = absurd (true≢false (sym s))
entered_at (f ∷ fs) l ts s = by (nat_eq f.label l) refl s (entered_at fs l ts)
  where
    by : (b : Bool) → nat_eq f.label l ≡ b → (b || stands fs l) ≡ true → (stands fs l ≡ true → parameters_of (changed fs l (λ f. entered f ts)) l ≡ entered_with (parameters_of fs l) ts)
        → parameters_of (if b then entered f ts ∷ fs else f ∷ changed fs l (λ f. entered f ts)) l ≡ entered_with (if b then f.params else parameters_of fs l) ts
    by true e s more = ap (λ b. if b then entered_with f.params ts else parameters_of fs l) e
    by false e s more = ap (λ b. if b then f.params else parameters_of (changed fs l (λ f. entered f ts)) l) e ∙ more s

given_at : (fs : FlowState) (l : ℕ) (t : Type4) → stands fs l ≡ true → result_of (changed fs l (λ f. returning f t)) l ≡ join (result_of fs l) t
given_at [] l t s = absurd (true≢false (sym s))
given_at (f ∷ fs) l t s = by (nat_eq f.label l) refl s (given_at fs l t)
  where
    by : (b : Bool) → nat_eq f.label l ≡ b → (b || stands fs l) ≡ true → (stands fs l ≡ true → result_of (changed fs l (λ f. returning f t)) l ≡ join (result_of fs l) t)
        → result_of (if b then returning f t ∷ fs else f ∷ changed fs l (λ f. returning f t)) l ≡ join (if b then f.result else result_of fs l) t
    by true e s more = ap (λ b. if b then join f.result t else result_of fs l) e
    by false e s more = ap (λ b. if b then f.result else result_of (changed fs l (λ f. returning f t)) l) e ∙ more s

-- ---- a widened state, function by function

pub widened_parameters_of : (fs ns : FlowState) (l : ℕ) → labels_of ns ≡ labels_of fs → parameters_of (widened fs ns) l ≡ widened_parameters (parameters_of fs l) (parameters_of ns l)
widened_parameters_of [] [] l e = refl
widened_parameters_of [] (n ∷ ns) l e = absurd cc
widened_parameters_of (f ∷ fs) [] l e = absurd cc
widened_parameters_of (f ∷ fs) (n ∷ ns) l e =
    let h : n.label ≡ f.label = cc in
    let t : labels_of ns ≡ labels_of fs = cc in
    by (nat_eq f.label l) (widened_parameters_of fs ns l t)
    ∙ ap (λ k. widened_parameters (parameters_of (f ∷ fs) l) (if nat_eq k l then n.params else parameters_of ns l)) (sym h)
  where
    by : (b : Bool) → parameters_of (widened fs ns) l ≡ widened_parameters (parameters_of fs l) (parameters_of ns l)
        → (if b then widened_parameters f.params n.params else parameters_of (widened fs ns) l) ≡ widened_parameters (if b then f.params else parameters_of fs l) (if b then n.params else parameters_of ns l)
    by true more = refl
    by false more = more

module _ (same : (s t : Type4) → IsTrue (is_same s t) ↔ (s ≡ t)) where
  pub widened_result_of : (fs ns : FlowState) (l : ℕ) → labels_of ns ≡ labels_of fs → result_of (widened fs ns) l ≡ widened_result (result_of fs l) (result_of ns l)
  widened_result_of [] [] l e = sym (ap (λ b. cond b none any) ((same none none).1 refl))
  widened_result_of [] (n ∷ ns) l e = absurd cc
  widened_result_of (f ∷ fs) [] l e = absurd cc
  widened_result_of (f ∷ fs) (n ∷ ns) l e =
      let h : n.label ≡ f.label = cc in
      let t : labels_of ns ≡ labels_of fs = cc in
      by (nat_eq f.label l) (widened_result_of fs ns l t)
      ∙ ap (λ k. widened_result (result_of (f ∷ fs) l) (if nat_eq k l then n.result else result_of ns l)) (sym h)
    where
      by : (b : Bool) → result_of (widened fs ns) l ≡ widened_result (result_of fs l) (result_of ns l)
          → (if b then widened_result f.result n.result else result_of (widened fs ns) l) ≡ widened_result (if b then f.result else result_of fs l) (if b then n.result else result_of ns l)
      by true more = refl
      by false more = more

  module _ (F : TypeFacts) where
    covers_left : (ts us : List Type4) → Covers ts (joins ts us)
    covers_left [] us = tt
    covers_left (t ∷ ts) [] = tt
    covers_left (t ∷ ts) (u ∷ us) = (F.left t u, covers_left ts us)

    covers_right : (ts us : List Type4) → Covers us (joins ts us)
    covers_right [] us = tt
    covers_right (t ∷ ts) [] = tt
    covers_right (t ∷ ts) (u ∷ us) = (F.right t u, covers_right ts us)

    pub covers_anys : (ts : List Type4) → Covers ts (anys ts)
    covers_anys [] = tt
    covers_anys (t ∷ ts) = (λ v h. F.every v, covers_anys ts)

    below_anys : (ts us : List Type4) → EachBelow ts (anys us)
    below_anys [] us = tt
    below_anys (t ∷ ts) [] = tt
    below_anys (t ∷ ts) (u ∷ us) = (λ v h. F.every v, below_anys ts us)

    -- ---- what a contribution adds

    entered_grows : (p : Option (List Type4)) (ts : List Type4) → Grow p (entered_with p ts)
    entered_grows None ts = tt
    entered_grows (Some us) ts = covers_left us ts

    pub one_grows : (st : FlowState) (g : Contribution) (k : ℕ) → Grow (parameters_of st k) (parameters_of (takes_one st g) k)
    one_grows st (Enters l ts) k = grown_parameters (λ f. entered f ts) (λ f. refl) (λ f. entered_grows f.params ts) st l k
    one_grows st (Returns l t) k = grown_parameters (λ f. returning f t) (λ f. refl) (λ f. grow_itself f.params) st l k

    one_gives_more : (st : FlowState) (g : Contribution) (k : ℕ) → Below (result_of st k) (result_of (takes_one st g) k)
    one_gives_more st (Enters l ts) k = grown_result (λ f. entered f ts) (λ f. refl) (λ f v h. h) st l k
    one_gives_more st (Returns l t) k = grown_result (λ f. returning f t) (λ f. refl) (λ f. F.left f.result t) st l k

    -- ---- what a state that was made has taken in

    abbrev pub IsTakenBy : FlowState → Contribution → Type 0
    IsTakenBy st (Enters l ts) = IsTrue (stands st l) → (us : List Type4) × ((parameters_of st l ≡ Some us) × Covers ts us)
    IsTakenBy st (Returns l t) = IsTrue (stands st l) → Below t (result_of st l)

    abbrev pub AreTakenBy : FlowState → List Contribution → Type 0
    AreTakenBy st [] = Unit {0}
    AreTakenBy st (g ∷ gs) = IsTakenBy st g × AreTakenBy st gs

    entered_covers : (p : Option (List Type4)) (ts : List Type4) → (us : List Type4) × ((entered_with p ts ≡ Some us) × Covers ts us)
    entered_covers None ts = (ts, (refl, covers_itself ts))
    entered_covers (Some us) ts = (joins us ts, (refl, covers_right us ts))

    taken_at_once : (st : FlowState) (g : Contribution) → IsTakenBy (takes_one st g) g
    taken_at_once st (Enters l ts) = λ s.
        let there : stands st l ≡ true = sym (same_stands st (takes_one st (Enters l ts)) l (one_labels st (Enters l ts))) ∙ s in
        let e = entered_covers (parameters_of st l) ts in
        (e.0, (entered_at st l ts there ∙ e.1.0, e.1.1))
    taken_at_once st (Returns l t) = λ s.
        let there : stands st l ≡ true = sym (same_stands st (takes_one st (Returns l t)) l (one_labels st (Returns l t))) ∙ s in
        subst (λ u. Below t u) (sym (given_at st l t there)) (F.right (result_of st l) t)

    grown_covers : (ts us : List Type4) (p : Option (List Type4)) → Covers ts us → Grow (Some us) p → (ws : List Type4) × ((p ≡ Some ws) × Covers ts ws)
    grown_covers ts us None a b = absurd b
    grown_covers ts us (Some ws) a b = (ws, (refl, covers_through ts us ws a b))

    taken_still : (st : FlowState) (h g : Contribution) → IsTakenBy st g → IsTakenBy (takes_one st h) g
    taken_still st h (Enters l ts) taken = λ s.
        let there : stands st l ≡ true = sym (same_stands st (takes_one st h) l (one_labels st h)) ∙ s in
        let e = taken there in
        grown_covers ts e.0 (parameters_of (takes_one st h) l) e.1.1
        (subst (λ p. Grow p (parameters_of (takes_one st h) l)) e.1.0 (one_grows st h l))
    taken_still st h (Returns l t) taken = λ s.
        let there : stands st l ≡ true = sym (same_stands st (takes_one st h) l (one_labels st h)) ∙ s in
        λ v x. one_gives_more st h l v (taken there v x)

    taken_later : (st : FlowState) (g : Contribution) (hs : List Contribution) → IsTakenBy st g → IsTakenBy (takes st hs) g
    taken_later st g [] taken = taken
    taken_later st g (h ∷ hs) taken = taken_later (takes_one st h) g hs (taken_still st h g taken)

    all_taken : (st : FlowState) (gs : List Contribution) → AreTakenBy (takes st gs) gs
    all_taken st [] = tt
    all_taken st (g ∷ gs) = (taken_later (takes_one st g) g gs (taken_at_once st g), all_taken (takes_one st g) gs)

    -- ---- where the widened state is the one that it was

    module _ (st made : FlowState) (labels : labels_of made ≡ labels_of st) (still : widened st made ≡ st) where
      wide_parameters : (p : Option (List Type4)) (ts ws : List Type4) → widened_parameters p (Some ws) ≡ p → Covers ts ws → (us : List Type4) × ((p ≡ Some us) × EachBelow ts us)
      wide_parameters None ts ws e h = absurd cc
      wide_parameters (Some us) ts ws e h = (us, (refl, by (are_same us ws) refl (inside e)))
        where
          inside : Some (cond (are_same us ws) us (anys us)) ≡ Some us → cond (are_same us ws) us (anys us) ≡ us
          inside e = cc

          by : (b : Bool) → are_same us ws ≡ b → cond b us (anys us) ≡ us → EachBelow ts us
          by true s e = subst (λ xs. EachBelow ts xs) (sym (same_types same us ws s)) (each_below ts ws h)
          by false s e = subst (λ xs. EachBelow ts xs) e (below_anys ts us)

      wide_result : (r s t : Type4) → widened_result r s ≡ r → Below t s → Below t r
      wide_result r s t e h = by (is_same r s) refl e
        where
          by : (b : Bool) → is_same r s ≡ b → cond b r any ≡ r → Below t r
          by true q e = subst (λ u. Below t u) (sym ((same r s).0 q)) h
          by false q e = subst (λ u. Below t u) e (λ v x. F.every v)

      taken_in : (g : Contribution) → IsTakenBy made g → IsTaken st g
      taken_in (Enters l ts) taken = λ s.
          let e = taken (same_stands st made l labels ∙ s) in
          wide_parameters (parameters_of st l) ts e.0
          (ap (widened_parameters (parameters_of st l)) (sym e.1.0) ∙ sym (widened_parameters_of st made l labels) ∙ ap (λ x. parameters_of x l) still) e.1.1
      taken_in (Returns l t) taken = λ s.
          wide_result (result_of st l) (result_of made l) t (sym (widened_result_of st made l labels) ∙ ap (λ x. result_of x l) still)
          (taken (same_stands st made l labels ∙ s))

      all_taken_in : (gs : List Contribution) → AreTakenBy made gs → AreTaken st gs
      all_taken_in [] h = tt
      all_taken_in (g ∷ gs) h = (taken_in g h.0, all_taken_in gs h.1)

    pub settled_takes : (st : FlowState) (gs : List Contribution) → widened st (takes st gs) ≡ st → AreTaken st gs
    settled_takes st gs still = all_taken_in st (takes st gs) (takes_labels st gs) still gs (all_taken st gs)
