-- Contributions that change nothing may be left out of a round.
use Rattle.std.proofs.Common.{◌≡◌, ℕ, suc, ◌+◌, ◌<◌, inl, Bool, true, false, cond, nat_eq, List, [], ◌∷◌, ◌++◌, Option, Some}
use Rattle.std.proofs.Common.{None, drop, get_or, length, slice_get, refl, sym, ap, ap₂, ◌∙◌, append_assoc, append-nil, subst}
use Rattle.std.proofs.lemmas.List.{drop_more}
use Rattle.type_lattice.specs.Types.{Type4, Below, join}
use Rattle.cons_tree.specs.Facts.{TypeFacts}
use Rattle.module_flow_calls.specs.TypeLists.{joins}
use Rattle.module_flow_state.specs.declared.states.FlowFun.{FlowFun}
use Rattle.module_flow_state.specs.declared.states.Contribution.{Contribution}
use Rattle.module_flow_state.specs.declared.states.Contribution.TheVariants.{Returns}
use Rattle.module_flow_state.specs.States.{FlowState}
use Rattle.module_flow_state.specs.steps.Kept.{Absorbs, HasAll, KeptIn}
use Rattle.module_flow_state.specs.steps.Placing.{after_one, position_of}
use Rattle.module_flow_state.specs.steps.Reading.{label_of}
use Rattle.module_flow_state.proofs.Absorbing.{JoinFacts}
use Rattle.module_flow_state.proofs.Positions.{at_slice}
use Rattle.module_flow_state.proofs.Skipping.{after, after_skips}

pub next_left : {X : Type 0} (xs : List X) (i : ℕ) (x : X) → i < length xs → x ≡ get_or xs i x → drop i xs ≡ x ∷ drop (i + 1) xs
next_left xs i x h is = drop_more xs i x h ∙ ap (λ y. y ∷ drop (i + 1) xs) (sym is)

-- ---- types that others cover

join_covers : TypeFacts → (u t : Type4) → Below t u → join u t ≡ u
join_covers F u t h = F.same (join u t) u (F.least u t u (λ v x. x) h) (F.left u t)

pub joins_more : TypeFacts → (us ts : List Type4) (u t : Type4) (more rest : List Type4) → us ≡ u ∷ more → ts ≡ t ∷ rest → Below t u → joins more rest ≡ more → joins us ts ≡ us
joins_more F us ts u t more rest e f h covered =
    ap₂ joins e f ∙ ap₂ (λ x xs. x ∷ xs) (join_covers F u t h) covered ∙ sym e

pub joins_none : (us ts : List Type4) → us ≡ [] → joins us ts ≡ us
joins_none us ts e = ap (λ xs. joins xs ts) e ∙ sym e

pub absorbs_returned : TypeFacts → (f : FlowFun) (g : Contribution) (l : ℕ) (t : Type4) → g ≡ Returns l t → Below t f.result → Absorbs f g
absorbs_returned F f g l t e h = subst (Absorbs f) (sym e) (join_covers F f.result t h)

-- ---- a contribution that changes nothing

kept_none : (k : ℕ) (st : FlowState) → KeptIn k st []
kept_none k [] = tt
kept_none k (f ∷ fs) = (tt, kept_none k fs)

kept_at : (k : ℕ) (st : FlowState) (g : Contribution) (i : ℕ) (d : FlowFun) → position_of st (label_of g) ≡ Some i → Absorbs (get_or st i d) g → KeptIn k st (g ∷ [])
kept_at k [] g i d e a = tt
kept_at k (f ∷ fs) g i d e a = by (nat_eq f.label (label_of g)) (position_of fs (label_of g)) e (λ j h. kept_at k fs g j d h)
  where
    by : (b : Bool) (o : Option ℕ) → cond b (Some 0) (after_one o) ≡ Some i → ((j : ℕ) → o ≡ Some j → Absorbs (get_or fs j d) g → KeptIn k fs (g ∷ []))
        → HasAll k f (cond b (g ∷ []) []) × KeptIn k fs (cond b [] (g ∷ []))
    by true o e h = let q : 0 ≡ i = cc in ((inl (subst (λ j. Absorbs (get_or (f ∷ fs) j d) g) (sym q) a), tt), kept_none k fs)
    by false None e h = absurd cc
    by false (Some j) e h = let q : suc j ≡ i = cc in (tt, h j refl (subst (λ n. Absorbs (get_or (f ∷ fs) n d) g) (sym q) a))

pub kept_nowhere : (k : ℕ) (st : FlowState) (g : Contribution) → position_of st (label_of g) ≡ None → KeptIn k st (g ∷ [])
kept_nowhere k [] g e = tt
kept_nowhere k (f ∷ fs) g e = by (nat_eq f.label (label_of g)) (position_of fs (label_of g)) e (kept_nowhere k fs g)
  where
    by : (b : Bool) (o : Option ℕ) → cond b (Some 0) (after_one o) ≡ None → (o ≡ None → KeptIn k fs (g ∷ [])) → HasAll k f (cond b (g ∷ []) []) × KeptIn k fs (cond b [] (g ∷ []))
    by true o e h = absurd cc
    by false None e h = (tt, h refl)
    by false (Some j) e h = absurd cc

pub kept_there : (k : ℕ) (fs st : FlowState) (g : Contribution) (i : ℕ) (f : FlowFun) → fs ≡ st → Some i ≡ position_of st (label_of g) → slice_get fs i ≡ Some f → Absorbs f g → KeptIn k st (g ∷ [])
kept_there k fs st g i f same at there a =
    kept_at k st g i f (sym at) (subst (λ h. Absorbs h g) (sym (at_slice st i f f (ap (λ gs. slice_get gs i) (sym same) ∙ there))) a)

-- contributions that a round may take in place of others
abbrev pub TakenAs : FlowState → (news all : List Contribution) → Type 0
TakenAs st news all = (k : ℕ) → after k st news ≡ after k st all

-- the same, with those that are left behind them
abbrev pub TakenSoFar : FlowState → (news left all : List Contribution) → Type 0
TakenSoFar st news left all = TakenAs st (news ++ left) all

pub taken_more : (st : FlowState) (news left all : List Contribution) (i : ℕ) (g : Contribution) → drop i left ≡ g ∷ drop (i + 1) left → TakenSoFar st news (drop i left) all
    → TakenSoFar st (news ++ g ∷ []) (drop (i + 1) left) all
taken_more st news left all i g e h k = ap (after k st) (append_assoc news (g ∷ []) (drop (i + 1) left) ∙ ap (λ gs. news ++ gs) (sym e)) ∙ h k

pub taken_at_end : (st : FlowState) (news left all : List Contribution) → left ≡ [] → TakenSoFar st news left all → TakenAs st news all
taken_at_end st news left all e h k = sym (ap (after k st) (ap (λ gs. news ++ gs) e ∙ append-nil news)) ∙ h k

-- what a state is after it took them
pub news_taken : (st next : FlowState) (taken news all : List Contribution) (k : ℕ) → taken ≡ news → after k st news ≡ after k st all → next ≡ after k st taken → next ≡ after k st all
news_taken st next taken news all k e same is = is ∙ ap (after k st) e ∙ same

module _ (F : JoinFacts) where
  pub taken_without : (st : FlowState) (news left all : List Contribution) (i : ℕ) (g : Contribution) → drop i left ≡ g ∷ drop (i + 1) left → ((k : ℕ) → KeptIn k st (g ∷ [])) → TakenSoFar st news (drop i left) all
      → TakenSoFar st news (drop (i + 1) left) all
  taken_without st news left all i g e kept h k =
      sym (after_skips F k st news (g ∷ []) (drop (i + 1) left) (kept k)) ∙ ap (λ gs. after k st (news ++ gs)) (sym e) ∙ h k
