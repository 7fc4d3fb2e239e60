-- A round that walks only the functions for which something changed gives what a round that walks them all gives.
use Rattle.std.proofs.Common.{◌≡◌, ℕ, suc, Bool, true, false, cond, List, [], ◌∷◌, ◌++◌, Option, Some, None, refl, sym, ap, ◌∙◌, subst, append_assoc, append-nil}
use Rattle.std.specs.List.{list_any}
use Rattle.std.proofs.lemmas.Bool.{or_parts}
use Rattle.type_kinds.specs.declared.atom.Atom.{Atom}
use Rattle.core_ast.specs.declared.syntax.FunName.{FunName}
use Rattle.core_ast.specs.Tree.{all_defs, tree}
use Rattle.core_scope.specs.Asks.{one_value}
use Rattle.core_scope.specs.Functions.{LabelledFunction, functions_of_defs}
use Rattle.type_lattice.specs.Types.{Type4}
use Rattle.cons_tree.specs.declared.parts.Callee.{Callee}
use Rattle.module_flow_state.specs.declared.states.Contribution.{Contribution}
use Rattle.module_flow.specs.declared.visits.Visit.{Visit}
use Rattle.module_flow_walk.specs.Contributions.{contributions, contributions_of_functions, where_entered}
use Rattle.module_flow_state.specs.States.{returns, FlowState, parameters_of, result_of}
use Rattle.module_flow_calls.specs.NamedFunctions.{named_as, named_functions}
use Rattle.module_flow_state.specs.Scopes.{outermost, with_variables}
use Rattle.module_flow_walk.specs.Walk.{walk}
use Rattle.module_flow_state.specs.World.{World}
use Rattle.module_flow_state.specs.steps.Kept.{KeptIn}
use Rattle.module_flow_state.specs.steps.Reading.{AlikeIfNamed, AlikeInText, AlikeWhereGiven, AreAlike, labels_given, labels_named}
use Rattle.module_flow.specs.steps.Visits.{AreSettled, Definition, IsSettled, contributions_again, contributions_of_one, is_touched, labels_in_text, visits_again}
use Rattle.module_flow_state.specs.steps.Changes.{Rounds, in_round}
use Rattle.module_flow_state.proofs.Absorbing.{JoinFacts}
use Rattle.module_flow.proofs.Readings.{contributions_of_functions_same}
use Rattle.module_flow_state.proofs.Skipping.{after, after_skips, kept_given, kept_still}

-- ---- what is alike where nothing was touched

all_alike : {X : Type 0} (kind : FlowState → ℕ → X) (old new : FlowState) (rounds : List ℕ) (k : ℕ) → ((l : ℕ) → in_round rounds k l ≡ false → kind new l ≡ kind old l) → (ls : List ℕ)
    → list_any (in_round rounds k) ls ≡ false → AreAlike kind old new ls
all_alike kind old new rounds k alike [] e = tt
all_alike kind old new rounds k alike (l ∷ ls) e =
    let parts = or_parts (in_round rounds k l) (list_any (in_round rounds k) ls) e in
    (alike l parts.0, all_alike kind old new rounds k alike ls parts.1)

module _ (old new : FlowState) where
  given_alike : (gs : List Contribution) → AreAlike result_of old new (labels_given gs) → AlikeWhereGiven old new gs
  given_alike [] a = tt
  given_alike (g ∷ gs) a = (a.0, given_alike gs a.1)

  text_alike : (fs : List LabelledFunction) → AreAlike parameters_of old new (labels_named (named_functions fs)) → AlikeInText old new fs
  text_alike [] a = tt
  text_alike (f ∷ fs) a = by f.name a (text_alike fs)
    where
      by : (o : Option FunName) → AreAlike parameters_of old new (labels_named (named_as f o ++ named_functions fs)) → (AreAlike parameters_of old new (labels_named (named_functions fs)) → AlikeInText old new fs)
          → AlikeIfNamed old new f.label o × AlikeInText old new fs
      by None b more = (tt, more b)
      by (Some name) b more = (b.0, more b.1)

-- ---- a round

module _ (F : JoinFacts) (callee : Atom → FunName → Callee) (home : Atom) (names : List FunName) (labels : List ℕ) (st : FlowState) (rounds : Rounds) (k : ℕ) where
  abbrev world_in : FlowState → World
  world_in s = record { callee = callee; home = home; names = names; labels = labels; state = s }

  abbrev all_contributions : List Definition → List Contribution
  all_contributions ds = contributions_of_functions (world_in st) outermost (all_defs ds)

  one_more : (d : Definition) (ds : List Definition) → all_contributions (d ∷ ds) ≡ contributions_of_one (world_in st) d ++ all_contributions ds
  one_more d ds =
      let body = λ (ts : List Type4). contributions (world_in st) (with_variables outermost d.fun.params ts) one_value (tree d.fun.body)
      ++ returns d.mark.label (walk (world_in st) (with_variables outermost d.fun.params ts) one_value (tree d.fun.body)) in
      ap (λ gs. gs ++ all_contributions ds) (sym (append-nil (where_entered (parameters_of st d.mark.label) body)))

  -- behind what was given before
  round_from : (ds : List Definition) (vs : List Visit) (hs : List Contribution) → AreSettled (world_in st) rounds k ds vs → after k st (hs ++ contributions_again (world_in st) rounds k ds vs) ≡ after k st (hs ++ all_contributions ds)
  round_from [] [] hs s = refl
  round_from [] (v ∷ vs) hs s = absurd s
  round_from (d ∷ ds) [] hs s = absurd s
  round_from (d ∷ ds) (v ∷ vs) hs s =
      by (is_touched rounds k v) refl (λ is. round_from ds vs is s.1)
      ∙ sym (ap (λ gs. after k st (hs ++ gs)) (one_more d ds))
    where
      by : (b : Bool) → is_touched rounds k v ≡ b → ((is : List Contribution) → after k st (is ++ contributions_again (world_in st) rounds k ds vs) ≡ after k st (is ++ all_contributions ds))
          → after k st (hs ++ (cond b (contributions_of_one (world_in st) d) [] ++ contributions_again (world_in st) rounds k ds vs)) ≡ after k st (hs ++ (contributions_of_one (world_in st) d ++ all_contributions ds))
      by true e more =
          let one = contributions_of_one (world_in st) d in
          ap (after k st) (sym (append_assoc hs one (contributions_again (world_in st) rounds k ds vs)))
          ∙ more (hs ++ one)
          ∙ ap (after k st) (append_assoc hs one (all_contributions ds))
      by false e more = more hs ∙ sym (after_skips F k st hs (contributions_of_one (world_in st) d) (all_contributions ds) (s.0.kept e))

  pub round_again : (ds : List Definition) (vs : List Visit) → AreSettled (world_in st) rounds k ds vs → after k st (contributions_again (world_in st) rounds k ds vs) ≡ after k st (all_contributions ds)
  round_again ds vs s = round_from ds vs [] s

  -- ---- what is known of the functions after it

  module _ (next : FlowState) (later : Rounds) (entered : (l : ℕ) → in_round later.0 (suc k) l ≡ false → parameters_of next l ≡ parameters_of st l) (given_same : (l : ℕ) → in_round later.1 (suc k) l ≡ false
      → result_of next l ≡ result_of st l) where
    same_contributions : (d : Definition) → AreAlike parameters_of st next (labels_in_text d) → AreAlike result_of st next (labels_given (contributions_of_one (world_in st) d))
        → contributions_of_one (world_in st) d ≡ contributions_of_one (world_in next) d
    same_contributions d text given =
        contributions_of_functions_same callee home names labels st next (all_defs (d ∷ [])) outermost
        (text_alike st next (functions_of_defs (all_defs (d ∷ []))) text)
        (given_alike st next (contributions_of_one (world_in st) d) given)

    -- one function, of which is known what it gave
    settled_one : (d : Definition) (v : Visit) → v.own ≡ labels_in_text d → labels_given (contributions_of_one (world_in st) d) ≡ v.given → KeptIn (suc k) next (contributions_of_one (world_in st) d)
        → IsSettled (world_in next) later (suc k) d v
    settled_one d v own given kept = record {
      own = own;
      given = λ e. ap labels_given (sym (same e)) ∙ given;
      kept = λ e. subst (KeptIn (suc k) next) (same e) kept;
    }
      where
        same : is_touched later (suc k) v ≡ false → contributions_of_one (world_in st) d ≡ contributions_of_one (world_in next) d
        same e =
            let parts = or_parts (list_any (in_round later.0 (suc k)) v.own) (list_any (in_round later.1 (suc k)) v.given) e in
            same_contributions d (subst (AreAlike parameters_of st next) own (all_alike parameters_of st next later.0 (suc k) entered v.own parts.0))
            (subst (AreAlike result_of st next) (sym given) (all_alike result_of st next later.1 (suc k) given_same v.given parts.1))

    settled_from : (ds : List Definition) (vs : List Visit) (hs : List Contribution) → next ≡ after k st (hs ++ contributions_again (world_in st) rounds k ds vs) → AreSettled (world_in st) rounds k ds vs
        → AreSettled (world_in next) later (suc k) ds (visits_again (world_in st) rounds k ds vs)
    settled_from [] [] hs is s = tt
    settled_from [] (v ∷ vs) hs is s = absurd s
    settled_from (d ∷ ds) [] hs is s = absurd s
    settled_from (d ∷ ds) (v ∷ vs) hs is s = (
      by (is_touched rounds k v) refl is,
      settled_from ds vs (hs ++ cond (is_touched rounds k v) (contributions_of_one (world_in st) d) [])
          (is ∙ ap (after k st) (sym (append_assoc hs (cond (is_touched rounds k v) (contributions_of_one (world_in st) d) []) (contributions_again (world_in st) rounds k ds vs)))) s.1,
    )
      where
        by : (b : Bool) → is_touched rounds k v ≡ b → next ≡ after k st (hs ++ (cond b (contributions_of_one (world_in st) d) [] ++ contributions_again (world_in st) rounds k ds vs))
            → IsSettled (world_in next) later (suc k) d (cond b (record { own = v.own; given = labels_given (contributions_of_one (world_in st) d) }) v)
        by true e at =
            settled_one d (record { own = v.own; given = labels_given (contributions_of_one (world_in st) d) }) s.0.own refl
            (subst (λ n. KeptIn (suc k) n (contributions_of_one (world_in st) d)) (sym at) (kept_given F k st hs (contributions_of_one (world_in st) d) (contributions_again (world_in st) rounds k ds vs)))
        by false e at =
            settled_one d v s.0.own (s.0.given e)
            (subst (λ n. KeptIn (suc k) n (contributions_of_one (world_in st) d)) (sym at) (kept_still F k st (hs ++ ([] ++ contributions_again (world_in st) rounds k ds vs)) (contributions_of_one (world_in st) d) (s.0.kept e)))

    pub settled_again : (ds : List Definition) (vs : List Visit) → next ≡ after k st (contributions_again (world_in st) rounds k ds vs) → AreSettled (world_in st) rounds k ds vs
        → AreSettled (world_in next) later (suc k) ds (visits_again (world_in st) rounds k ds vs)
    settled_again ds vs is s = settled_from ds vs [] is s
