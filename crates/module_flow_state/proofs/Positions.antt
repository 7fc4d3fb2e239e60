-- Functions of a state by their labels: what stands at a position, and what changes there.
use Rattle.std.proofs.Common.{◌≡◌, ℕ, zero, suc, ◌<◌, Bool, true, false, cond, List, [], ◌∷◌, ◌++◌, length, get_or, set, slice_get, Option, Some, None, nat_eq, refl, sym, ap, ◌∙◌, subst, arith, eqb-true}
use Rattle.std.specs.Prelude.{if◌then◌else◌, IfOk, IfSome, MatchOption, Result, is_some, option_copied}
use denote.Bor.{Bor}
use Rattle.std.proofs.lemmas.List.{set-get_or}
use Rattle.std.proofs.lemmas.Option.{get_or_from_slice_get}
use Rattle.std.specs.Map.{lookup}
use Rattle.type_lattice.specs.Types.{Type4}
use Rattle.module_flow_state.specs.declared.states.FlowFun.{FlowFun}
use Rattle.module_flow_state.specs.States.{FlowState, changed, parameters_of, result_of}
use Rattle.module_flow_state.specs.steps.Kept.{functions_at}
use Rattle.module_flow_state.specs.steps.Placing.{ArePlaced, after_one, is_same_function, position_of}
use Rattle.module_flow_state.proofs.Sameness.{function_equal}

-- ---- one step along a state

step_none : {X : Type 0} (b : Bool) (o : Option ℕ) (x y z : X) → cond b (Some 0) (after_one o) ≡ None → (o ≡ None → y ≡ z) → (if b then x else y) ≡ z
step_none true o x y z e h = absurd cc
step_none false None x y z e h = h refl
step_none false (Some i) x y z e h = absurd cc

step_some : {X : Type 0} (pick : FlowFun → X) (b : Bool) (o : Option ℕ) (i : ℕ) (f : FlowFun) (fs : FlowState) (d : FlowFun) (y : X) → cond b (Some 0) (after_one o) ≡ Some i
    → ((j : ℕ) → o ≡ Some j → y ≡ pick (get_or fs j d)) → (if b then pick f else y) ≡ pick (get_or (f ∷ fs) i d)
step_some pick true o i f fs d y e h = let q : 0 ≡ i = cc in ap (λ j. pick (get_or (f ∷ fs) j d)) q
step_some pick false None i f fs d y e h = absurd cc
step_some pick false (Some j) i f fs d y e h = let q : suc j ≡ i = cc in h j refl ∙ ap (λ k. pick (get_or (f ∷ fs) k d)) q

step_changed : (change : FlowFun → FlowFun) (b : Bool) (o : Option ℕ) (i : ℕ) (f : FlowFun) (fs more : FlowState) (d : FlowFun) → cond b (Some 0) (after_one o) ≡ Some i
    → ((j : ℕ) → o ≡ Some j → more ≡ set fs j (change (get_or fs j d))) → (if b then change f ∷ fs else f ∷ more) ≡ set (f ∷ fs) i (change (get_or (f ∷ fs) i d))
step_changed change true o i f fs more d e h = let q : 0 ≡ i = cc in ap (λ j. set (f ∷ fs) j (change (get_or (f ∷ fs) j d))) q
step_changed change false None i f fs more d e h = absurd cc
step_changed change false (Some j) i f fs more d e h =
    let q : suc j ≡ i = cc in ap (λ gs. f ∷ gs) (h j refl) ∙ ap (λ k. set (f ∷ fs) k (change (get_or (f ∷ fs) k d))) q

step_within : (b : Bool) (o : Option ℕ) (i n : ℕ) → cond b (Some 0) (after_one o) ≡ Some i → ((j : ℕ) → o ≡ Some j → j < n) → i < suc n
step_within true o i n e h = let q : 0 ≡ i = cc in omega arith
step_within false None i n e h = absurd cc
step_within false (Some j) i n e h = let q : suc j ≡ i = cc in let r : j < n = h j refl in omega arith

-- ---- what stands at a position

pub position_within : (fs : FlowState) (l i : ℕ) → position_of fs l ≡ Some i → i < length fs
position_within [] l i e = absurd cc
position_within (f ∷ fs) l i e = step_within (nat_eq f.label l) (position_of fs l) i (length fs) e (position_within fs l)

pub parameters_none : (fs : FlowState) (l : ℕ) → position_of fs l ≡ None → parameters_of fs l ≡ None
parameters_none [] l e = refl
parameters_none (f ∷ fs) l e = step_none (nat_eq f.label l) (position_of fs l) f.params (parameters_of fs l) None e (parameters_none fs l)

pub parameters_at : (fs : FlowState) (l i : ℕ) (d : FlowFun) → position_of fs l ≡ Some i → parameters_of fs l ≡ (get_or fs i d).params
parameters_at [] l i d e = absurd cc
parameters_at (f ∷ fs) l i d e =
    step_some (λ g. g.params) (nat_eq f.label l) (position_of fs l) i f fs d (parameters_of fs l) e (λ j h. parameters_at fs l j d h)

pub result_none : (fs : FlowState) (l : ℕ) → position_of fs l ≡ None → result_of fs l ≡ result_of [] l
result_none [] l e = refl
result_none (f ∷ fs) l e = step_none (nat_eq f.label l) (position_of fs l) f.result (result_of fs l) (result_of [] l) e (result_none fs l)

pub result_at : (fs : FlowState) (l i : ℕ) (d : FlowFun) → position_of fs l ≡ Some i → result_of fs l ≡ (get_or fs i d).result
result_at [] l i d e = absurd cc
result_at (f ∷ fs) l i d e =
    step_some (λ g. g.result) (nat_eq f.label l) (position_of fs l) i f fs d (result_of fs l) e (λ j h. result_at fs l j d h)

pub changed_none : (fs : FlowState) (l : ℕ) (change : FlowFun → FlowFun) → position_of fs l ≡ None → changed fs l change ≡ fs
changed_none [] l change e = refl
changed_none (f ∷ fs) l change e =
    step_none (nat_eq f.label l) (position_of fs l) (change f ∷ fs) (f ∷ changed fs l change) (f ∷ fs) e (λ h. ap (λ gs. f ∷ gs) (changed_none fs l change h))

pub changed_at : (fs : FlowState) (l i : ℕ) (change : FlowFun → FlowFun) (d : FlowFun) → position_of fs l ≡ Some i → changed fs l change ≡ set fs i (change (get_or fs i d))
changed_at [] l i change d e = absurd cc
changed_at (f ∷ fs) l i change d e =
    step_changed change (nat_eq f.label l) (position_of fs l) i f fs (changed fs l change) d e (λ j h. changed_at fs l j change d h)

-- ---- the same, where the function there is known

pub at_slice : (fs : FlowState) (i : ℕ) (f d : FlowFun) → slice_get fs i ≡ Some f → get_or fs i d ≡ f
at_slice fs i f d e = get_or_from_slice_get fs i f d e

pub parameters_there : (fs : FlowState) (l i : ℕ) (f : FlowFun) → position_of fs l ≡ Some i → slice_get fs i ≡ Some f → parameters_of fs l ≡ f.params
parameters_there fs l i f e there = parameters_at fs l i f e ∙ ap (λ g. g.params) (at_slice fs i f f there)

pub result_there : (fs : FlowState) (l i : ℕ) (f : FlowFun) → position_of fs l ≡ Some i → slice_get fs i ≡ Some f → result_of fs l ≡ f.result
result_there fs l i f e there = result_at fs l i f e ∙ ap (λ g. g.result) (at_slice fs i f f there)

pub changed_there : (fs : FlowState) (l i : ℕ) (change : FlowFun → FlowFun) (f : FlowFun) → position_of fs l ≡ Some i → slice_get fs i ≡ Some f → changed fs l change ≡ set fs i (change f)
changed_there fs l i change f e there = changed_at fs l i change f e ∙ ap (λ g. set fs i (change g)) (at_slice fs i f f there)

-- ---- what look-ups tell

pub position_fits : (fs : FlowState) (l : ℕ) (o : Option ℕ) → o ≡ position_of fs l → IfSome o (λ i. i < length fs)
position_fits fs l None e = tt
position_fits fs l (Some i) e = position_within fs l i (sym e)

-- a position of the state is one of the list that is kept
pub within_kept : (fs st : FlowState) (i : ℕ) → fs ≡ st → i < length st → i < length fs
within_kept fs st i same h = subst (λ gs. i < length gs) (sym same) h

kept_there : (fs st : FlowState) (i : ℕ) (f : FlowFun) → fs ≡ st → slice_get fs i ≡ Some f → slice_get st i ≡ Some f
kept_there fs st i f same there = ap (λ gs. slice_get gs i) (sym same) ∙ there

pub parameters_told : (fs st : FlowState) (l i : ℕ) (f : FlowFun) (o : Option (Bor (List Type4))) → fs ≡ st → Some i ≡ position_of st l → slice_get fs i ≡ Some f → option_copied o ≡ f.params
    → MatchOption o (parameters_of st l ≡ None) (λ ts. parameters_of st l ≡ Some ts.now)
parameters_told fs st l i f None same at there is = parameters_there st l i f (sym at) (kept_there fs st i f same there) ∙ sym is
parameters_told fs st l i f (Some ts) same at there is = parameters_there st l i f (sym at) (kept_there fs st i f same there) ∙ sym is

pub result_told : {E : Type 0} (fs st : FlowState) (l i : ℕ) (f : FlowFun) (r : Result Type4 E) → fs ≡ st → Some i ≡ position_of st l → slice_get fs i ≡ Some f → IfOk r (λ t. t ≡ f.result)
    → IfOk r (λ t. t ≡ result_of st l)
result_told fs st l i f r same at there is =
    subst (λ u. IfOk r (λ t. t ≡ u)) (sym (result_there st l i f (sym at) (kept_there fs st i f same there))) is

-- where the function at the position of a label was changed
pub changed_told : (fs st new : FlowState) (l i : ℕ) (change : FlowFun → FlowFun) (f g : FlowFun) → fs ≡ st → Some i ≡ position_of st l → slice_get fs i ≡ Some f → g ≡ change f → new ≡ set fs i g
    → new ≡ changed st l change
changed_told fs st new l i change f g same at there is after =
    after ∙ ap (λ gs. set gs i g) same ∙ ap (set st i) is ∙ sym (changed_there st l i change f (sym at) (kept_there fs st i f same there))

-- where the change leaves the function as it is
set_itself : (fs : FlowState) (i : ℕ) (f : FlowFun) → slice_get fs i ≡ Some f → set fs i f ≡ fs
set_itself fs i f there = ap (set fs i) (sym (at_slice fs i f f there)) ∙ set-get_or fs i f

pub unchanged_told : (fs st : FlowState) (l i : ℕ) (change : FlowFun → FlowFun) (f g : FlowFun) (b : Bool) → fs ≡ st → Some i ≡ position_of st l → slice_get fs i ≡ Some f → g ≡ change f → b ≡ is_same_function f g
    → b ≡ true → st ≡ changed st l change
unchanged_told fs st l i change f g b same at there is told holds =
    let here = kept_there fs st i f same there in
    sym (changed_there st l i change f (sym at) here ∙ ap (set st i) (sym is ∙ sym (function_equal f g (sym told ∙ holds))) ∙ set_itself st i f here)

-- ---- the function of a label

pub label_at : (fs : FlowState) (l i : ℕ) (f : FlowFun) → position_of fs l ≡ Some i → slice_get fs i ≡ Some f → f.label ≡ l
label_at [] l i f e there = absurd cc
label_at (g ∷ fs) l zero f e there = by (nat_eq g.label l) refl (position_of fs l) e
  where
    by : (b : Bool) → nat_eq g.label l ≡ b → (o : Option ℕ) → cond b (Some 0) (after_one o) ≡ Some 0 → f.label ≡ l
    by true q o h = let s : g ≡ f = cc in ap (λ x. x.label) (sym s) ∙ eqb-true g.label l q
    by false q None h = absurd cc
    by false q (Some j) h = let s : suc j ≡ 0 = cc in absurd (omega arith)
label_at (g ∷ fs) l (suc i) f e there = by (nat_eq g.label l) (position_of fs l) refl e (label_at fs l i f)
  where
    by : (b : Bool) (o : Option ℕ) → position_of fs l ≡ o → cond b (Some 0) (after_one o) ≡ Some (suc i) → (position_of fs l ≡ Some i → slice_get fs i ≡ Some f → f.label ≡ l) → f.label ≡ l
    by true o q h more = let s : 0 ≡ suc i = cc in absurd (omega arith)
    by false None q h more = absurd cc
    by false (Some j) q h more =
        let s : suc j ≡ suc i = cc in
        let t : j ≡ i = omega arith in
        more (q ∙ ap Some t) there

pub label_told : (fs st : FlowState) (l i : ℕ) (f : FlowFun) → fs ≡ st → Some i ≡ position_of st l → slice_get fs i ≡ Some f → f.label ≡ l
label_told fs st l i f same at there = label_at st l i f (sym at) (kept_there fs st i f same there)

pub functions_none : (fs : FlowState) (l : ℕ) → position_of fs l ≡ None → functions_at fs l ≡ []
functions_none [] l e = refl
functions_none (f ∷ fs) l e = step_none (nat_eq f.label l) (position_of fs l) (f ∷ []) (functions_at fs l) [] e (functions_none fs l)

functions_there : (fs : FlowState) (l i : ℕ) (d : FlowFun) → position_of fs l ≡ Some i → functions_at fs l ≡ get_or fs i d ∷ []
functions_there [] l i d e = absurd cc
functions_there (f ∷ fs) l i d e =
    step_some (λ g. g ∷ []) (nat_eq f.label l) (position_of fs l) i f fs d (functions_at fs l) e (λ j h. functions_there fs l j d h)

pub functions_told : (fs st : FlowState) (l i : ℕ) (f : FlowFun) → fs ≡ st → Some i ≡ position_of st l → slice_get fs i ≡ Some f → functions_at st l ≡ f ∷ []
functions_told fs st l i f same at there =
    functions_there st l i f (sym at) ∙ ap (λ g. g ∷ []) (at_slice st i f f (kept_there fs st i f same there))

-- ---- a state that keeps its labels

same_place : (b : Bool) (o p : Option ℕ) → o ≡ p → cond b (Some 0) (after_one o) ≡ cond b (Some 0) (after_one p)
same_place b o p e = ap (λ q. cond b (Some 0) (after_one q)) e

pub position_of-set : (fs : FlowState) (i l : ℕ) (f d : FlowFun) → f.label ≡ (get_or fs i d).label → position_of (set fs i f) l ≡ position_of fs l
position_of-set [] i l f d e = refl
position_of-set (g ∷ fs) zero l f d e = ap (λ k. cond (nat_eq k l) (Some 0) (after_one (position_of fs l))) e
position_of-set (g ∷ fs) (suc i) l f d e = same_place (nat_eq g.label l) (position_of (set fs i f) l) (position_of fs l) (position_of-set fs i l f d e)

-- ---- a function more

more_there : (b : Bool) (o p : Option ℕ) (i : ℕ) → cond b (Some 0) (after_one o) ≡ Some i → ((j : ℕ) → o ≡ Some j → p ≡ Some j) → cond b (Some 0) (after_one p) ≡ Some i
more_there true o p i e h = e
more_there false None p i e h = absurd cc
more_there false (Some j) p i e h = ap after_one (h j refl) ∙ e

pub position_more : (fs : FlowState) (f : FlowFun) (l i : ℕ) → position_of fs l ≡ Some i → position_of (fs ++ f ∷ []) l ≡ Some i
position_more [] f l i e = absurd cc
position_more (g ∷ fs) f l i e = more_there (nat_eq g.label l) (position_of fs l) (position_of (fs ++ f ∷ []) l) i e (position_more fs f l)

last_there : (b : Bool) (o p q : Option ℕ) → cond b (Some 0) (after_one o) ≡ None → (o ≡ None → p ≡ q) → cond b (Some 0) (after_one p) ≡ after_one q
last_there true o p q e h = absurd cc
last_there false None p q e h = ap after_one (h refl)
last_there false (Some j) p q e h = absurd cc

-- the position of a function that stands last, where no other has its label
abbrev pub last_position : FlowState → FlowFun → ℕ → Option ℕ
last_position fs f l = cond (nat_eq f.label l) (Some (length fs)) None

after_last : (b : Bool) (n : ℕ) → after_one (cond b (Some n) None) ≡ cond b (Some (suc n)) None
after_last true n = refl
after_last false n = refl

pub position_last : (fs : FlowState) (f : FlowFun) (l : ℕ) → position_of fs l ≡ None → position_of (fs ++ f ∷ []) l ≡ last_position fs f l
position_last [] f l e = refl
position_last (g ∷ fs) f l e =
    last_there (nat_eq g.label l) (position_of fs l) (position_of (fs ++ f ∷ []) l) (last_position fs f l) e (position_last fs f l)
    ∙ after_last (nat_eq f.label l) (length fs)

-- ---- the table

none_of_other : (b : Bool) (n : ℕ) → b ≡ false → cond b (Some n) None ≡ None
none_of_other true n e = absurd cc
none_of_other false n e = refl

some_is : {X : Type 0} (o : Option X) → true ≡ is_some o → o ≡ None → ⊥
some_is None e f = absurd cc
some_is (Some x) e f = absurd cc

none_is : {X : Type 0} (o : Option X) (x : X) → false ≡ is_some o → o ≡ Some x → ⊥
none_is None x e f = absurd cc
none_is (Some y) x e f = absurd cc

-- a label that has a position already keeps it
pub placed_there : (fs new : FlowState) (f : FlowFun) (positions : List (ℕ × ℕ)) → ArePlaced fs positions → true ≡ is_some (lookup (nat_eq f.label) positions) → new ≡ fs ++ f ∷ [] → ArePlaced new positions
placed_there fs new f positions placed there added l = by (position_of fs l) refl (nat_eq f.label l) refl ∙ ap (λ gs. position_of gs l) (sym added)
  where
    by : (o : Option ℕ) → position_of fs l ≡ o → (b : Bool) → nat_eq f.label l ≡ b → lookup (nat_eq l) positions ≡ position_of (fs ++ f ∷ []) l
    by (Some j) at b same = placed l ∙ at ∙ sym (position_more fs f l j at)
    by None at false same = placed l ∙ at ∙ sym (position_last fs f l at ∙ none_of_other (nat_eq f.label l) (length fs) same)
    by None at true same =
        let e : f.label ≡ l = eqb-true f.label l same in
        absurd (some_is (lookup (nat_eq f.label) positions) there (ap (λ k. lookup (nat_eq k) positions) e ∙ placed l ∙ at))

-- and a new one is entered
pub placed_more : (fs new : FlowState) (f : FlowFun) (n : ℕ) (old positions : List (ℕ × ℕ)) → ArePlaced fs old → false ≡ is_some (lookup (nat_eq f.label) old) → n ≡ length fs
    → ((q : ℕ) → lookup (nat_eq q) positions ≡ cond (nat_eq f.label q) (Some n) (lookup (nat_eq q) old)) → new ≡ fs ++ f ∷ [] → ArePlaced new positions
placed_more fs new f n old positions placed none len entered added l = by (position_of fs l) refl (nat_eq f.label l) refl ∙ ap (λ gs. position_of gs l) (sym added)
  where
    by : (o : Option ℕ) → position_of fs l ≡ o → (b : Bool) → nat_eq f.label l ≡ b → lookup (nat_eq l) positions ≡ position_of (fs ++ f ∷ []) l
    by None at b same =
        entered l ∙ ap (cond (nat_eq f.label l) (Some n)) (placed l ∙ at) ∙ ap (λ m. cond (nat_eq f.label l) (Some m) None) len ∙ sym (position_last fs f l at)
    by (Some j) at false same =
        entered l ∙ ap (λ c. cond c (Some n) (lookup (nat_eq l) old)) same ∙ placed l ∙ at ∙ sym (position_more fs f l j at)
    by (Some j) at true same =
        let e : f.label ≡ l = eqb-true f.label l same in
        absurd (none_is (lookup (nat_eq f.label) old) j none (ap (λ k. lookup (nat_eq k) old) e ∙ placed l ∙ at))

pub placed_set : (fs : FlowState) (i : ℕ) (f d : FlowFun) (positions : List (ℕ × ℕ)) → ArePlaced fs positions → f.label ≡ (get_or fs i d).label → ArePlaced (set fs i f) positions
placed_set fs i f d positions placed same l = placed l ∙ sym (position_of-set fs i l f d same)

pub placed_change : (fs new : FlowState) (i : ℕ) (f g : FlowFun) (positions : List (ℕ × ℕ)) → ArePlaced fs positions → slice_get fs i ≡ Some f → g.label ≡ f.label → new ≡ set fs i g → ArePlaced new positions
placed_change fs new i f g positions placed there same after = subst (λ gs. ArePlaced gs positions) (sym after)
    (placed_set fs i g f positions placed (same ∙ ap (λ h. h.label) (sym (at_slice fs i f f there))))
