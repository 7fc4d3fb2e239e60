-- Which functions a round walks again: those for which something changed of what their last walk read.
use Rattle.std.specs.Prelude.{◌≡◌, ℕ, Bool, false, true, ◌||◌, cond, List, [], ◌∷◌, ◌++◌, Some, slice_get}
use Rattle.std.specs.List.{Contains, list_any}
use Rattle.std.specs.List.Sorted.{IsNonDecreasing}
use Rattle.core_ast.specs.declared.syntax.Expr.{Expr}
use Rattle.core_ast.specs.declared.syntax.FunDefOf.{FunDefOf}
use Rattle.core_ast.specs.Tree.{all_defs}
use Rattle.core_scope.specs.Functions.{functions_of_defs}
use Rattle.module_flow_state.specs.declared.states.Contribution.{Contribution}
use Rattle.module_flow.specs.declared.visits.Visit.{Visit}
use Rattle.module_flow_walk.specs.Contributions.{contributions_of_functions}
use Rattle.module_flow_calls.specs.NamedFunctions.{named_functions}
use Rattle.module_flow_state.specs.Scopes.{outermost}
use Rattle.module_flow_state.specs.World.{World}
use Rattle.module_flow_state.specs.steps.Kept.{KeptIn}
use Rattle.module_flow_state.specs.steps.Reading.{labels_given, labels_named}
use Rattle.module_flow_state.specs.steps.Changes.{Rounds, in_round}

abbrev pub Definition : Type 0
Definition = FunDefOf Expr

-- what the walk of one function gives, and the labels of the functions with names in its text
abbrev pub contributions_of_one : World → Definition → List Contribution
contributions_of_one W d = contributions_of_functions W outermost (all_defs (d ∷ []))

abbrev pub labels_in_text : Definition → List ℕ
labels_in_text d = labels_named (named_functions (functions_of_defs (all_defs (d ∷ []))))

-- a function that wasn't walked
abbrev pub first_visit : Definition → Visit
first_visit d = record { own = labels_in_text d; given = [] }

-- ---- what changed

-- what it was entered with, of the functions in its text, or what those give that it gave something to
abbrev pub is_touched : (rounds : Rounds) → (round : ℕ) → Visit → Bool
is_touched rounds k v = list_any (in_round rounds.0 k) v.own || list_any (in_round rounds.1 k) v.given

-- Positions in ascending order, with those of all functions of which something changed before the round.
pub record AreCandidates (rounds : Rounds) (k : ℕ) (visits : List Visit) (positions : List ℕ) : Type 0 where
  pub ascending : IsNonDecreasing positions
  pub all : (q : ℕ) (v : Visit) → slice_get visits q ≡ Some v → is_touched rounds k v ≡ true → Contains positions q

-- ---- a round

module _ (W : World) (rounds : Rounds) (k : ℕ) where
  -- what is given by the functions that are walked again
  abbrev pub contributions_again : List Definition → List Visit → List Contribution
  contributions_again [] vs = []
  contributions_again (d ∷ ds) [] = []
  contributions_again (d ∷ ds) (v ∷ vs) = cond (is_touched rounds k v) (contributions_of_one W d) [] ++ contributions_again ds vs

  -- what is known of each function then
  abbrev pub visit_again : Definition → Visit → Visit
  visit_again d v = cond (is_touched rounds k v) (record { own = v.own; given = labels_given (contributions_of_one W d) }) v

  abbrev pub visits_again : List Definition → List Visit → List Visit
  visits_again [] vs = []
  visits_again (d ∷ ds) [] = []
  visits_again (d ∷ ds) (v ∷ vs) = visit_again d v ∷ visits_again ds vs

  -- what is known of a function is so of this state, unless something of it changed
  pub record IsSettled (d : Definition) (v : Visit) : Type 0 where
    pub own : v.own ≡ labels_in_text d
    pub given : is_touched rounds k v ≡ false → labels_given (contributions_of_one W d) ≡ v.given
    pub kept : is_touched rounds k v ≡ false → KeptIn k W.state (contributions_of_one W d)

  abbrev pub AreSettled : List Definition → List Visit → Type 0
  AreSettled [] [] = Unit {0}
  AreSettled [] (v ∷ vs) = ⊥
  AreSettled (d ∷ ds) [] = ⊥
  AreSettled (d ∷ ds) (v ∷ vs) = IsSettled d v × AreSettled ds vs
