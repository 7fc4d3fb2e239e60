-- One round of the code, in which only some functions are walked, is the round of the definition.
use Rattle.std.proofs.Common.{◌≡◌, ℕ, suc, ◌+◌, Bool, false, List, refl, sym, ap, ◌∙◌, subst, add-one}
use Rattle.core_ast.specs.declared.syntax.FunName.{FunName}
use Rattle.core_ast.specs.declared.syntax.Module.{Module}
use Rattle.core_ast.specs.Tree.{all_defs, module_tree}
use Rattle.core_scope.specs.Names.{defined_names}
use Rattle.module_flow_state.specs.declared.states.Contribution.{Contribution}
use Rattle.module_flow.specs.declared.visits.Visit.{Visit}
use Rattle.module_flow.specs.Flow.{Callees, made_of}
use Rattle.module_flow_calls.specs.Functions.{defined_labels}
use Rattle.module_flow_state.specs.States.{FlowState, next_state, parameters_of, result_of, takes}
use Rattle.module_flow_state.specs.World.{World}
use Rattle.module_flow.specs.steps.Visits.{AreSettled, Definition, contributions_again, visits_again}
use Rattle.module_flow_state.specs.steps.Changes.{Noted, Rounds, in_round}
use Rattle.module_flow_state.proofs.Absorbing.{JoinFacts}
use Rattle.module_flow.proofs.Beginnings.{round_made}
use Rattle.module_flow_state.proofs.Skipping.{after}
use Rattle.module_flow.proofs.Visiting.{round_again, settled_again}

module _ (F : JoinFacts) (callees : Callees) (source : Module) (names : List FunName) (labels : List ℕ) where
  abbrev In : FlowState → World
  In st = record { callee = callees; home = source.name; names = names; labels = labels; state = st }

  -- what the code has behind a round: the contributions, what is known of the functions, and the state
  module _ (st next : FlowState) (rounds later : Rounds) (k : ℕ) (ds : List Definition) (vs new : List Visit) (gs taken : List Contribution) (c : Bool) (is_all : ds ≡ source.defs) (settled : AreSettled (In st) rounds k source.defs vs)
      (contributions : gs ≡ contributions_again (In st) rounds k ds vs) (visits : new ≡ visits_again (In st) rounds k ds vs) (all_taken : taken ≡ gs) (after_it : next ≡ next_state k st (takes st taken)) where
    taken_again : next ≡ after k st (contributions_again (In st) rounds k source.defs vs)
    taken_again = after_it ∙ ap (after k st) (all_taken ∙ contributions ∙ ap (λ xs. contributions_again (In st) rounds k xs vs) is_all)

    pub is_made : names ≡ defined_names (all_defs source.defs) → labels ≡ defined_labels (all_defs source.defs) → next ≡ next_state k st (made_of callees (module_tree source) st)
    is_made n l =
        taken_again
        ∙ round_again F callees source.name names labels st rounds k source.defs vs settled
        ∙ ap (next_state k st) (round_made callees (module_tree source) (In st) refl refl n l)

    pub settled_next : Noted st next rounds later (k + 1) c → AreSettled (In next) later (k + 1) source.defs new
    settled_next noted =
        let entered : (l : ℕ) → in_round later.0 (suc k) l ≡ false → parameters_of next l ≡ parameters_of st l =
        subst (λ n. (l : ℕ) → in_round later.0 n l ≡ false → parameters_of next l ≡ parameters_of st l) (add-one k) noted.entered.alike
        in
        let given : (l : ℕ) → in_round later.1 (suc k) l ≡ false → result_of next l ≡ result_of st l =
        subst (λ n. (l : ℕ) → in_round later.1 n l ≡ false → result_of next l ≡ result_of st l) (add-one k) noted.given.alike
        in
        subst (λ n. AreSettled (In next) later n source.defs new) (sym (add-one k))
        (subst (AreSettled (In next) later (suc k) source.defs) (sym (visits ∙ ap (λ xs. visits_again (In st) rounds k xs vs) is_all))
        (settled_again F callees source.name names labels st rounds k next later entered given source.defs vs taken_again settled))
