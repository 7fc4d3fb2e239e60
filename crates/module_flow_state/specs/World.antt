-- What a walk knows of the module: what stands under each module and name, the functions that the module itself defines, and
-- the state of the flow.
use Rattle.std.specs.Prelude.{ℕ, false, true, List}
use Rattle.type_kinds.specs.declared.atom.Atom.{Atom}
use Rattle.core_ast.specs.declared.syntax.FunName.{FunName}
use Rattle.cons_tree.specs.declared.parts.Callee.{Callee}
use Rattle.cons_gen_rows.specs.Passes.{Knowledge}
use Rattle.module_flow_state.specs.States.{FlowState}

-- home: the module; names and labels: its functions
pub record World : Type 0 where
  pub callee : Atom → FunName → Callee
  pub home : Atom
  pub names : List FunName
  pub labels : List ℕ
  pub state : FlowState

-- calls by their strict signatures, with which the flow goes on, and by their lenient ones, by which calls are reported
abbrev pub strict : World → Knowledge
strict W = record { lenient = false; own = λ home f. false; callee = W.callee }

abbrev pub lenient : World → Knowledge
lenient W = record { lenient = true; own = λ home f. false; callee = W.callee }
