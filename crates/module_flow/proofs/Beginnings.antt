-- Where the flow begins, and what its first walk knows.
use Rattle.std.proofs.Common.{◌≡◌, ℕ, cond, List, [], ◌∷◌, ◌++◌, map, replicate, Option, Some, None, refl, ap, ap₂, ◌∙◌}
use Rattle.core_ast.specs.declared.syntax.FunName.{FunName}
use Rattle.core_ast.specs.Model as m
use Rattle.core_scope.specs.Functions.{LabelledFunction, functions_of}
use Rattle.core_scope.specs.Names.{defined_names}
use Rattle.type_lattice.specs.Types.{any, none}
use Rattle.module_flow_calls.specs.declared.names.DefinedFunction.{DefinedFunction}
use Rattle.module_flow.specs.Flow.{Callees, begins, begins_one, first_state, has_label, made_of, open_labels, world}
use Rattle.module_flow_calls.specs.Functions.{defined_labels}
use Rattle.module_flow_walk.specs.Contributions.{contributions_of_functions}
use Rattle.module_flow_calls.specs.NamedFunctions.{named_as, named_functions}
use Rattle.module_flow_state.specs.Scopes.{outermost}
use Rattle.module_flow_state.specs.States.{FlowState, takes}
use Rattle.module_flow_state.specs.World.{World}
use Rattle.module_flow.specs.steps.Beginning.{initial_function}

-- the functions that have names, each as it begins
one_initial : (escaping_labels : List ℕ) (f : LabelledFunction) (name : Option FunName) (ds : List DefinedFunction) (rest : FlowState) → map (initial_function escaping_labels) ds ≡ rest
    → map (initial_function escaping_labels) (named_as f name ++ ds) ≡ begins_one escaping_labels f name ++ rest
one_initial escaping_labels f None ds rest e = e
one_initial escaping_labels f (Some name) ds rest e = ap (λ gs. begins_one escaping_labels f (Some name) ++ gs) e

pub initial_functions : (escaping_labels : List ℕ) (fs : List LabelledFunction) → map (initial_function escaping_labels) (named_functions fs) ≡ begins escaping_labels fs
initial_functions escaping_labels [] = refl
initial_functions escaping_labels (f ∷ fs) = one_initial escaping_labels f f.name (named_functions fs) (begins escaping_labels fs) (initial_functions escaping_labels fs)

-- what a function begins with goes by which labels are there alone
initial_as : (one other : List ℕ) → ((l : ℕ) → has_label one l ≡ has_label other l) → (d : DefinedFunction) → initial_function one d ≡ initial_function other d
initial_as one other same d = λ i. record {
  label = d.label;
  name = d.name;
  params = cond (same d.label i) (Some (replicate d.count any)) None;
  result = none;
}

pub initial_functions_as : (one other : List ℕ) → ((l : ℕ) → has_label one l ≡ has_label other l) → (ds : List DefinedFunction) → map (initial_function one) ds ≡ map (initial_function other) ds
initial_functions_as one other same [] = refl
initial_functions_as one other same (d ∷ ds) = ap₂ (λ f fs. f ∷ fs) (initial_as one other same d) (initial_functions_as one other same ds)

-- what a walk of a module knows, and its round, where these are its functions
pub same_world : (callees : Callees) (x : m.Module) (W : World) → W.callee ≡ callees → W.home ≡ x.name → W.names ≡ defined_names x.defs → W.labels ≡ defined_labels x.defs → W ≡ world callees x W.state
same_world callees x W c h n l = λ i. record { callee = c i; home = h i; names = n i; labels = l i; state = W.state }

pub round_made : (callees : Callees) (x : m.Module) (W : World) → W.callee ≡ callees → W.home ≡ x.name → W.names ≡ defined_names x.defs → W.labels ≡ defined_labels x.defs
    → takes W.state (contributions_of_functions W outermost x.defs) ≡ made_of callees x W.state
round_made callees x W c h n l = ap (λ V. takes W.state (contributions_of_functions V outermost x.defs)) (same_world callees x W c h n l)

-- where the flow of a module begins, from the labels that are looked up and the functions that have names
pub initial_first : (x : m.Module) (labels set : List ℕ) (functions : List DefinedFunction) (state : FlowState) → functions ≡ named_functions (functions_of x) → labels ≡ open_labels x
    → ((l : ℕ) → has_label set l ≡ has_label labels l) → state ≡ map (initial_function set) functions → state ≡ first_state x
initial_first x labels set functions state named escaping_labels same is =
    is
    ∙ ap (map (initial_function set)) named
    ∙ initial_functions_as set labels same (named_functions (functions_of x))
    ∙ initial_functions labels (functions_of x)
    ∙ ap (λ ls. begins ls (functions_of x)) escaping_labels
