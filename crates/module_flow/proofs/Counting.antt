-- Each function keeps as many types of parameters as it has parameters, where it is entered with as many.
use Rattle.std.proofs.Common.{◌≡◌, ℕ, zero, suc, Bool, true, false, cond, List, [], ◌∷◌, length, replicate, Option, Some, None, refl, sym, ap, ap₂, ◌∙◌, subst, eqb-true}
use Rattle.std.specs.Prelude.{IsTrue, ◌↔◌, nat_eq, nat_lt, if◌then◌else◌}
use Rattle.core_ast.specs.Model as m
use Rattle.type_lattice.specs.Types.{Type4, AreBelow, any}
use Rattle.type_lattice.specs.Inclusion.{is_same}
use Rattle.cons_tree.specs.Facts.{TypeFacts}
use Rattle.module_flow_state.specs.declared.states.Contribution.{Contribution}
use Rattle.module_flow_state.specs.declared.states.Contribution.TheVariants.{Enters, Returns}
use Rattle.module_flow.specs.Flow.{Callees, after_rounds, first_state, last_round, last_state, made_of, world}
use Rattle.module_flow_walk.specs.Contributions.{contributions_of_functions}
use Rattle.module_flow_state.specs.Scopes.{outermost}
use Rattle.module_flow_state.specs.Settled.{AreCounted, AreTaken, AreWhollyTaken, EachBelow, GiveCounted, IsWhollyTaken, labels_of}
use Rattle.module_flow_state.specs.States.{FlowState, anys, changed, entered, entered_with, joined_rounds, next_state, parameters_of, returning, takes, takes_one, widened, widened_parameters}
use Rattle.module_flow_calls.specs.TypeLists.{are_same, joins}
use Rattle.module_flow_state.proofs.Labels.{takes_labels}
use Rattle.module_flow_state.proofs.Taking.{Covers, Grow, covers_anys, covers_itself, grow_itself, grow_through, one_grows, widened_parameters_of}

-- ---- lengths

-- n types, where there are types
abbrev pub Counted : ℕ → Option (List Type4) → Type 0
Counted n p = (us : List Type4) → p ≡ Some us → length us ≡ n

joins_length : (ts us : List Type4) → length us ≡ length ts → length (joins ts us) ≡ length ts
joins_length [] us e = refl
joins_length (t ∷ ts) [] e = cc
joins_length (t ∷ ts) (u ∷ us) e = let h : length us ≡ length ts = cc in ap suc (joins_length ts us h)

anys_length : (n : ℕ) → length (replicate n any) ≡ n
anys_length zero = refl
anys_length (suc n) = ap suc (anys_length n)

counted_some : (n : ℕ) (ts : List Type4) → length ts ≡ n → Counted n (Some ts)
counted_some n ts e us h = let same : ts ≡ us = cc in ap length (sym same) ∙ e

entered_counted : (n : ℕ) (p : Option (List Type4)) (ts : List Type4) → Counted n p → length ts ≡ n → Counted n (entered_with p ts)
entered_counted n None ts h e = counted_some n ts e
entered_counted n (Some us) ts h e =
    let k : length us ≡ n = h us refl in
    counted_some n (joins us ts) (joins_length us ts (e ∙ sym k) ∙ k)

widened_counted : (n : ℕ) (p q : Option (List Type4)) → Counted n p → Counted n q → Counted n (widened_parameters p q)
widened_counted n None None h k = h
widened_counted n None (Some ws) h k = counted_some n (anys ws) (anys_length (length ws) ∙ k ws refl)
widened_counted n (Some us) None h k = h
widened_counted n (Some us) (Some ws) h k = by (are_same us ws)
  where
    by : (b : Bool) → Counted n (Some (cond b us (anys us)))
    by true = h
    by false = counted_some n (anys us) (anys_length (length us) ∙ h us refl)

module _ (counts : ℕ → ℕ) where
  entered_all : (fs : FlowState) (l : ℕ) (ts : List Type4) → length ts ≡ counts l → AreCounted counts fs → AreCounted counts (changed fs l (λ f. entered f ts))
  entered_all [] l ts e h = tt
  entered_all (f ∷ fs) l ts e h = by (nat_eq f.label l) refl (entered_all fs l ts e h.1)
    where
      by : (b : Bool) → nat_eq f.label l ≡ b → AreCounted counts (changed fs l (λ f. entered f ts)) → AreCounted counts (if b then entered f ts ∷ fs else f ∷ changed fs l (λ f. entered f ts))
      by true q more =
          let at : l ≡ f.label = sym (eqb-true f.label l q) in
          (entered_counted (counts f.label) f.params ts h.0 (e ∙ ap counts at), h.1)
      by false q more = (h.0, more)

  given_all : (fs : FlowState) (l : ℕ) (t : Type4) → AreCounted counts fs → AreCounted counts (changed fs l (λ f. returning f t))
  given_all [] l t h = tt
  given_all (f ∷ fs) l t h = by (nat_eq f.label l) (given_all fs l t h.1)
    where
      by : (b : Bool) → AreCounted counts (changed fs l (λ f. returning f t)) → AreCounted counts (if b then returning f t ∷ fs else f ∷ changed fs l (λ f. returning f t))
      by true more = (h.0, h.1)
      by false more = (h.0, more)

  pub takes_counted : (st : FlowState) (gs : List Contribution) → GiveCounted counts gs → AreCounted counts st → AreCounted counts (takes st gs)
  takes_counted st [] g h = h
  takes_counted st (Enters l ts ∷ gs) g h = takes_counted (takes_one st (Enters l ts)) gs g.1 (entered_all st l ts g.0 h)
  takes_counted st (Returns l t ∷ gs) g h = takes_counted (takes_one st (Returns l t)) gs g (given_all st l t h)

  widened_all : (fs ns : FlowState) → labels_of ns ≡ labels_of fs → AreCounted counts fs → AreCounted counts ns → AreCounted counts (widened fs ns)
  widened_all [] ns e h k = tt
  widened_all (f ∷ fs) [] e h k = tt
  widened_all (f ∷ fs) (n ∷ ns) e h k =
      let at : n.label ≡ f.label = cc in
      let rest : labels_of ns ≡ labels_of fs = cc in
      (widened_counted (counts f.label) f.params n.params h.0 (subst (λ j. Counted (counts j) n.params) at k.0), widened_all fs ns rest h.1 k.1)

  next_counted : (k : ℕ) (st made : FlowState) → labels_of made ≡ labels_of st → AreCounted counts st → AreCounted counts made → AreCounted counts (next_state k st made)
  next_counted k st made e h g = by (nat_lt k joined_rounds)
    where
      by : (b : Bool) → AreCounted counts (cond b made (widened st made))
      by true = g
      by false = widened_all st made e h g

  -- the parameters of one function
  counted_at : (fs : FlowState) (l : ℕ) → AreCounted counts fs → Counted (counts l) (parameters_of fs l)
  counted_at [] l h = λ us e. absurd cc
  counted_at (f ∷ fs) l h = by (nat_eq f.label l) refl (counted_at fs l h.1)
    where
      by : (b : Bool) → nat_eq f.label l ≡ b → Counted (counts l) (parameters_of fs l) → Counted (counts l) (if b then f.params else parameters_of fs l)
      by true q more = subst (λ j. Counted (counts j) f.params) (eqb-true f.label l q) h.0
      by false q more = more

  all_below : (ts us : List Type4) → length ts ≡ length us → EachBelow ts us → AreBelow ts us
  all_below [] [] e h = tt
  all_below [] (u ∷ us) e h = absurd cc
  all_below (t ∷ ts) [] e h = absurd cc
  all_below (t ∷ ts) (u ∷ us) e h = let k : length ts ≡ length us = cc in (h.0, all_below ts us k h.1)

  pub wholly : (st : FlowState) (gs : List Contribution) → AreCounted counts st → GiveCounted counts gs → AreTaken st gs → AreWhollyTaken st gs
  wholly st [] h g t = tt
  wholly st (Enters l ts ∷ gs) h g t = (here, wholly st gs h g.1 t.1)
    where
      here : IsWhollyTaken st (Enters l ts)
      here s =
          let taken = t.0 s in
          (taken.0, (taken.1.0, all_below ts taken.0 (g.0 ∙ sym (counted_at st l h taken.0 taken.1.0)) taken.1.1))
  wholly st (Returns l u ∷ gs) h g t = (t.0, wholly st gs h g t.1)

  module _ (same : (s t : Type4) → IsTrue (is_same s t) ↔ (s ≡ t)) (F : TypeFacts) where
    -- ---- a function that may be entered with anything stays so

    takes_grow : (st : FlowState) (gs : List Contribution) (l : ℕ) → Grow (parameters_of st l) (parameters_of (takes st gs) l)
    takes_grow st [] l = grow_itself (parameters_of st l)
    takes_grow st (g ∷ gs) l =
        grow_through (parameters_of st l) (parameters_of (takes_one st g) l) (parameters_of (takes (takes_one st g) gs) l) (one_grows same F st g l)
        (takes_grow (takes_one st g) gs l)

    widened_grow : (p q : Option (List Type4)) → Grow p (widened_parameters p q)
    widened_grow None q = tt
    widened_grow (Some us) None = covers_itself us
    widened_grow (Some us) (Some ws) = by (are_same us ws)
      where
        by : (b : Bool) → Covers us (cond b us (anys us))
        by true = covers_itself us
        by false = covers_anys same F us

    next_grows : (k : ℕ) (st made : FlowState) (l : ℕ) → labels_of made ≡ labels_of st → Grow (parameters_of st l) (parameters_of made l) → Grow (parameters_of st l) (parameters_of (next_state k st made) l)
    next_grows k st made l e g = by (nat_lt k joined_rounds)
      where
        by : (b : Bool) → Grow (parameters_of st l) (parameters_of (cond b made (widened st made)) l)
        by true = g
        by false = subst (λ p. Grow (parameters_of st l) p) (sym (widened_parameters_of st made l e)) (widened_grow (parameters_of st l) (parameters_of made l))

    covered_anys : (n : ℕ) (us : List Type4) → Covers (replicate n any) us → length us ≡ n → us ≡ replicate n any
    covered_anys zero [] h e = refl
    covered_anys zero (u ∷ us) h e = absurd h
    covered_anys (suc n) [] h e = absurd cc
    covered_anys (suc n) (u ∷ us) h e =
        let k : length us ≡ n = cc in
        ap₂ (λ x xs. x ∷ xs) (F.same u any (λ v x. F.every v) h.0) (covered_anys n us h.1 k)

    still_open : (n : ℕ) (p : Option (List Type4)) → Grow (Some (replicate n any)) p → Counted n p → p ≡ Some (replicate n any)
    still_open n None g h = absurd g
    still_open n (Some us) g h = ap Some (covered_anys n us g (h us refl))

    module _ (callees : Callees) (x : m.Module) (first : AreCounted counts (first_state x)) (gives : (st : FlowState) → GiveCounted counts (contributions_of_functions (world callees x st) outermost x.defs)) where
      abbrev pub states : ℕ → FlowState
      states = after_rounds callees x

      pub rounds_counted : (k : ℕ) → AreCounted counts (states k)
      rounds_counted zero = first
      rounds_counted (suc k) =
          let contributions = contributions_of_functions (world callees x (states k)) outermost x.defs in
          next_counted k (states k) (made_of callees x (states k)) (takes_labels (states k) contributions) (rounds_counted k)
          (takes_counted (states k) contributions (gives (states k)) (rounds_counted k))

      rounds_grow : (k l : ℕ) → Grow (parameters_of (first_state x) l) (parameters_of (states k) l)
      rounds_grow zero l = grow_itself (parameters_of (first_state x) l)
      rounds_grow (suc k) l =
          let contributions = contributions_of_functions (world callees x (states k)) outermost x.defs in
          grow_through (parameters_of (first_state x) l) (parameters_of (states k) l) (parameters_of (states (suc k)) l) (rounds_grow k l)
          (next_grows k (states k) (made_of callees x (states k)) l (takes_labels (states k) contributions) (takes_grow (states k) contributions l))

      pub stays_open : (k l : ℕ) → parameters_of (first_state x) l ≡ Some (replicate (counts l) any) → parameters_of (states k) l ≡ Some (replicate (counts l) any)
      stays_open k l e =
          still_open (counts l) (parameters_of (states k) l) (subst (λ p. Grow p (parameters_of (states k) l)) e (rounds_grow k l))
          (counted_at (states k) l (rounds_counted k))

      pub last_wholly : AreTaken (last_state callees x) (contributions_of_functions (world callees x (last_state callees x)) outermost x.defs)
          → AreWhollyTaken (last_state callees x) (contributions_of_functions (world callees x (last_state callees x)) outermost x.defs)
      last_wholly taken =
          wholly (last_state callees x) (contributions_of_functions (world callees x (last_state callees x)) outermost x.defs)
          (rounds_counted (last_round callees x)) (gives (last_state callees x)) taken
