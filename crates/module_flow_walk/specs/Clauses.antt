-- The head of a clause: its patterns and its guard are solved from the types of the variables and of what is matched.
use Rattle.std.specs.Prelude.{ℕ, ◌+◌, List, ◌++◌, length, replicate}
use Rattle.core_ast.specs.Model as m
use Rattle.type_lattice.specs.Types.{any}
use Rattle.cons_tree.specs.Environments.{Types, State}
use Rattle.cons_solve.specs.Environments.{solution}
use Rattle.cons_gen_rows.specs.Words.{together}
use Rattle.cons_gen_rows.specs.Patterns.{outer_bindings, outer_rows, outer_span}
use Rattle.cons_gen.specs.Spans.{span}
use Rattle.core_scope.specs.Asks.{one_value}
use Rattle.cons_gen.specs.Made.{head_rows}
use Rattle.module_flow_state.specs.Scopes.{WalkScope, scope_in}
use Rattle.module_flow_state.specs.World.{World, strict}

-- Where solving begins: what is seen, and any for the slots of the patterns and of the guard. What is matched is seen already.
abbrev pub beginning : WalkScope → m.Patterns → m.Tree → Types
beginning sc ps g = sc.types ++ replicate (outer_span ps + span one_value g) any

-- the types where the patterns match the values at the slots qs
abbrev pub patterns_solved : WalkScope → List ℕ → m.Patterns → m.Tree → State
patterns_solved sc qs ps g = solution (together (outer_rows qs (length sc.types) ps)) (beginning sc ps g)

-- the types where the patterns match and the guard is true
abbrev pub head_solved : World → WalkScope → List ℕ → m.Patterns → m.Tree → State
head_solved W sc qs ps g =
    solution (together (head_rows (strict W) W.home (scope_in sc) qs (length sc.types) ps g)) (beginning sc ps g)

-- what is seen behind the patterns: the clause's variables besides, and the types of a solution
abbrev pub inside : WalkScope → m.Patterns → Types → WalkScope
inside sc ps solved =
    record {
      variables = sc.variables ++ outer_bindings (length sc.types) ps;
      functions = sc.functions;
      labels = sc.labels;
      types = solved;
    }
