-- Two walks of a module in one state, by two things that are known.
use Rattle.std.proofs.Common.{◌≡◌, ℕ, List, Contains}
use Rattle.type_kinds.specs.declared.atom.Atom.{Atom}
use Rattle.core_ast.specs.declared.syntax.FunName.{FunName}
use Rattle.module_flow_state.specs.States.{FlowState}
use Rattle.module_flow_state.specs.World.{World}
use Rattle.module_flow.specs.Flow.{Callees}

-- what they know: of the functions that the module defines the same
pub record TwoWalks : Type 0 where
  pub first : Callees
  pub second : Callees
  pub home : Atom
  pub names : List FunName
  pub labels : List ℕ
  pub state : FlowState
  pub own : (f : FunName) → Contains names f → first home f ≡ second home f

abbrev pub first_world : TwoWalks → World
first_world z = record { callee = z.first; home = z.home; names = z.names; labels = z.labels; state = z.state }

abbrev pub second_world : TwoWalks → World
second_world z = record { callee = z.second; home = z.home; names = z.names; labels = z.labels; state = z.state }
