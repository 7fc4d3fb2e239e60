-- The parts from which the components of modules that are analysed together are solved, each apart from the others, where something
-- is known around them: of the functions of other modules.
use Rattle.std.specs.Prelude.{◌≡◌, ◌≢◌, ℕ, ◌<◌, List, [], length, map, Some, Contains, slice_get}
use Rattle.core_ast.specs.Model as m
use Rattle.core_scope.specs.Asks.{erlang}
use Rattle.call_graph.specs.Calls.{ModuleFunction, functions_of, GoesTo}
use Rattle.call_graph.specs.Targets.{CallTarget, targets}
use Rattle.call_graph.specs.Targets.CallTarget.{defined, inner, remote}
use Rattle.components.specs.Numbering.{Numbering, members_of, callees_of}
use Rattle.cons_tree.specs.Callees.{found}
use Rattle.cons_tree.specs.declared.parts.Summary.{Summary}
use Rattle.components.specs.Ready.{IsReadyNumbering}
use Rattle.comp_rounds.specs.declared.parts.CompOut.{CompOut}
use Rattle.comp_rounds.specs.declared.parts.CompPart.{CompPart}
use Rattle.comp_rounds.specs.Members.{function_of}
use Rattle.comp_rounds.specs.Parts.{Listed}
use Rattle.comp_rounds.specs.Rounds.{Callees, Function, summaries}
use Rattle.analysis_summaries.specs.Functions.{all_functions, picked}
use Rattle.analysis_summaries.specs.Known.{module_names, closed_over, after_components}
use Rattle.analysis_summaries.specs.Whole.{IsCallGraph}

-- the functions of a component
abbrev pub functions_in : List m.Module → Numbering → ℕ → List Function
functions_in xs c n = picked (all_functions xs) (members_of c n)

-- a function as the components that call it see it
abbrev pub listed : Function → Listed
listed g = (g.home, g.name, g.exported)

-- what is fixed where a function has this target is what is known before any component is solved
abbrev pub IsFixedAt : (around : Callees) → List m.Module → (fixed : Callees) → ModuleFunction → CallTarget → Type 0
IsFixedAt around xs fixed g (defined f count) = fixed g.home f ≡ closed_over around (module_names xs) g.home f
IsFixedAt around xs fixed g (inner f count) = Unit {0}
IsFixedAt around xs fixed g (remote h f) = h ≢ erlang → fixed h f ≡ closed_over around (module_names xs) h f

-- so it is at each target that goes to no function of the modules, of the functions of these numbers
abbrev pub IsFixedFor : (around : Callees) → List m.Module → (numbers : List ℕ) → (fixed : Callees) → Type 0
IsFixedFor around xs numbers fixed = (i : ℕ) (g : ModuleFunction) (t : CallTarget)
    → Contains numbers i → slice_get (functions_of xs) i ≡ Some g → Contains (targets [] g.body) t
    → ((k : ModuleFunction) → Contains (functions_of xs) k → GoesTo g t k → ⊥) → IsFixedAt around xs fixed g t

-- The part of a component: its functions, what is fixed where they call no function of the modules, and of each component that
-- it calls all functions, in their order.
pub record IsPartOf (around : Callees) (xs : List m.Module) (c : Numbering) (n : ℕ) (part : CompPart) : Type 0 where
  pub members : map function_of part.members ≡ functions_in xs c n
  pub fixed : IsFixedFor around xs (members_of c n) (found part.fixed)
  pub callees : part.callees ≡ map (λ d. map listed (functions_in xs c d)) (callees_of c n)

-- the summaries of a component, by what is known when all before it are solved
abbrev pub summaries_of : (around : Callees) → List m.Module → Numbering → ℕ → List Summary
summaries_of around xs c n = summaries (after_components (closed_over around (module_names xs)) (all_functions xs) c n) (functions_in xs c n)

-- the outputs are the summaries of the components, each by what is known when all before it are solved
pub record AreSummariesOf (first : Callees) (fs : List Function) (c : Numbering) (outputs : List CompOut) : Type 0 where
  pub counted : length outputs ≡ c.count
  pub each : (n : ℕ) → n < c.count → slice_get outputs n ≡ Some (record { summaries = summaries (after_components first fs c n) (picked fs (members_of c n)) })

-- the numbering has the components of the modules' functions in ready order
abbrev pub IsNumberingOf : List m.Module → Numbering → Type 0
IsNumberingOf xs c = (graph : List (List ℕ)) × IsCallGraph xs graph × IsReadyNumbering graph c
