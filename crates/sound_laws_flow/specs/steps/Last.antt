-- What is reported in each module, and when the states of all modules are last ones.
use Rattle.std.specs.Prelude.{◌≡◌, ℕ, true, [], Some, replicate}
use Rattle.type_kinds.specs.declared.atom.Atom.{Atom}
use Rattle.core_ast.specs.declared.syntax.FunName.{FunName}
use Rattle.core_scope.specs.Labels.{labels_of_defs}
use Rattle.type_lattice_model.specs.Values.{closure, no_variable}
use Rattle.type_lattice.specs.Types.{any}
use Rattle.cons_tree.specs.declared.parts.Callee.{Callee}
use Rattle.core_meaning.specs.Programs.{Program, module_named, is_exported, top_function}
use Rattle.module_flow_calls.specs.declared.node_context.NodeContext.{NodeContext}
use Rattle.module_flow_walk.specs.Findings.{found_in_functions}
use Rattle.module_flow_walk.specs.Contributions.{contributions_of_functions}
use Rattle.module_flow_state.specs.Scopes.{outermost}
use Rattle.module_flow_state.specs.States.{FlowState, parameters_of}
use Rattle.sound_laws_flow.specs.steps.Covered.{defs_in, world_of}
use Rattle.sound_laws_flow.specs.steps.Named.{NamedDefs}
use Rattle.sound_laws_flow.specs.steps.Seen.{NamesOnce}
use Rattle.sound_laws_flow.specs.steps.Taken.{AreTaken, Distinct, Reports}

-- around: what stands around each module
module _ (U : Program) (callee : Atom → FunName → Callee) (states : Atom → FlowState) (around : Atom → NodeContext) where
  -- the walk of a module reports something at this label
  abbrev pub IsReported : Atom → (label : ℕ) → Type 0
  IsReported home l = Reports l (found_in_functions (world_of U callee states home) (around home) outermost (defs_in (module_named U home)))

  -- The state of a module takes in all that its walk gives; who has the name of a function as a value, or from outside, may
  -- enter it with anything; and the module defines each name, and has each label, once.
  pub record IsLast (home : Atom) : Type 0 where
    pub names : NamesOnce (defs_in (module_named U home))
    pub labels : Distinct (labels_of_defs (defs_in (module_named U home)))
    pub taken : AreTaken (world_of U callee states home) (IsReported home) (contributions_of_functions (world_of U callee states home) outermost (defs_in (module_named U home)))
    pub named : NamedDefs (world_of U callee states home) (IsReported home) [] [] (defs_in (module_named U home))
    pub exports : (f : FunName) (label arity : ℕ) → is_exported U home f ≡ true → top_function U home f ≡ Some (closure home label arity no_variable) → parameters_of (states home) label ≡ Some (replicate arity any)
