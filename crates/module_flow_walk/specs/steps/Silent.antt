-- Texts that give nothing to the state, whatever is in scope.
use Rattle.std.specs.Prelude.{◌≡◌, ℕ, List, []}
use Rattle.core_ast.specs.Model as m
use Rattle.core_scope.specs.declared.ask.Ask.{Ask}
use Rattle.module_flow_state.specs.Scopes.{WalkScope}
use Rattle.module_flow_state.specs.World.{World}
use Rattle.module_flow_walk.specs.Contributions.{contributions, contributions_of_all, contributions_of_clauses, contributions_of_steps}

abbrev pub IsSilent : m.Tree → Type 0
IsSilent t = (W : World) (sc : WalkScope) (k : Ask) → contributions W sc k t ≡ []

abbrev pub AreSilent : m.Trees → Type 0
AreSilent ts = (W : World) (sc : WalkScope) → contributions_of_all W sc ts ≡ []

abbrev pub AreSilentSteps : m.Steps → Type 0
AreSilentSteps ss = (W : World) (sc : WalkScope) → contributions_of_steps W sc ss ≡ []

abbrev pub AreSilentClauses : m.Clauses → Type 0
AreSilentClauses cs = (W : World) (sc : WalkScope) (k : Ask) (qs : List ℕ) → contributions_of_clauses W sc k qs cs ≡ []
