-- Last states are settled, with what their walks report.
use Rattle.std.proofs.Common.{◌≡◌, ℕ, List, Option, Some, None, refl, sym, ap, subst}
use Rattle.std.proofs.lemmas.Option.{same_Some}
use Rattle.type_kinds.specs.declared.atom.Atom.{Atom}
use Rattle.core_ast.specs.declared.syntax.FunName.{FunName}
use Rattle.core_ast.specs.Model as m
use Rattle.type_lattice_model.specs.Values.{Value, closure, no_variable, Local}
use Rattle.type_lattice.specs.Types.{Type4}
use Rattle.cons_tree.specs.declared.parts.Callee.{Callee}
use Rattle.core_meaning.specs.Programs.{Program, module_named, function_named, closure_of, locals_of, top_of_module}
use Rattle.module_flow_calls.specs.declared.node_context.NodeContext.{NodeContext}
use Rattle.module_flow_state.specs.Scopes.{outermost}
use Rattle.module_flow_state.specs.States.{FlowState, parameters_of}
use Rattle.sound_laws.proofs.Summaries.{LabelsStand}
use Rattle.sound_laws_flow.specs.steps.Covered.{defs_in, world_of, IsBorneOut, HasResult, IsSettled}
use Rattle.sound_laws_flow.specs.steps.Fine.{FineFunctions}
use Rattle.sound_laws_flow.specs.steps.Last.{IsReported, IsLast}
use Rattle.sound_laws_flow.proofs.Coverage.{of_functions}
use Rattle.sound_laws_flow.proofs.Settle.{fine_functions}

abbrev label_of : Value → ℕ
label_of (closure home label arity env) = label
label_of v = 0

module _ (U : Program) (callee : Atom → FunName → Callee) (states : Atom → FlowState) (around : Atom → NodeContext) where
  abbrev Dead : Atom → ℕ → Type 0
  Dead home l = IsReported U callee states around home l

  borne : (home : Atom) → IsLast U callee states around home → FineFunctions (world_of U callee states home) (Dead home) (Dead home) outermost (defs_in (module_named U home))
  borne home x = fine_functions (world_of U callee states home) (Dead home) (defs_in (module_named U home)) (around home) outermost (record { distinct = x.labels; only = λ l h d. d; taken = x.taken }) x.named

  abbrev Both : Atom → ℕ → List Type4 → Type 0
  Both home l ps = IsBorneOut U callee states Dead Dead home l outermost ps × HasResult U callee states Dead Dead home l outermost ps

  body_at : LabelsStand U → (home : Atom) (f : FunName) (label arity : ℕ) (ps : List Type4) (o : Option m.Module) → module_named U home ≡ o
      → FineFunctions (world_of U callee states home) (Dead home) (Dead home) outermost (defs_in o) → top_of_module home o f ≡ Some (closure home label arity no_variable) → parameters_of (states home) label ≡ Some ps
      → Both home label ps
  body_at stand home f label arity ps None e fine top q = absurd cc
  body_at stand home f label arity ps (Some p) e fine top q = by (function_named (locals_of p.defs) f) refl top
    where
      by : (d : Option Local) → function_named (locals_of p.defs) f ≡ d → closure_of home no_variable d ≡ Some (closure home label arity no_variable) → Both home label ps
      by None named k = absurd cc
      by (Some d) named k =
          let same : d.label ≡ label = ap label_of (same_Some _ _ k) in
          subst (λ l. Both home l ps) same (of_functions U callee states Dead Dead home outermost p.defs f d ps fine (stand home p e) named (subst (λ l. parameters_of (states home) l ≡ Some ps) (sym same) q))

  pub is_settled : LabelsStand U → (home : Atom) → IsLast U callee states around home → IsSettled U callee states Dead Dead home
  is_settled stand home x = record {
    names = x.names;
    bodies = λ f label arity ps top q. body_at stand home f label arity ps (module_named U home) refl (borne home x) top q;
    exports = x.exports;
  }
