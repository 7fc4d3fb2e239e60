-- What walks of expressions give and note.
use Rattle.std.specs.Prelude.{Bool, cond, List, Option, Some, None, length}
use Rattle.core_ast.specs.declared.syntax.Expr.{Expr}
use Rattle.core_ast.specs.declared.syntax.StepOf.{StepOf}
use Rattle.core_ast.specs.declared.syntax.StepOf.TheVariants.{Let, Do}
use Rattle.core_ast.specs.Model as m
use Rattle.core_ast.specs.Tree.{tree}
use Rattle.core_scope.specs.declared.ask.Ask.{Ask}
use Rattle.core_scope.specs.declared.ask.Ask.TheVariants.{AnyNumber, Exactly}
use Rattle.cons_tree.specs.Environments.{Types}
use Rattle.warn_list.specs.declared.finding.Finding.{Finding}
use Rattle.module_flow_calls.specs.declared.node_context.NodeContext.{NodeContext}
use Rattle.module_flow_calls.specs.TypeLists.{Given}
use Rattle.module_flow_state.specs.declared.walk.WalkContext.{WalkContext}
use Rattle.module_flow_state.specs.declared.walk.FlowWalk.{FlowWalk}
use Rattle.module_flow_state.specs.Scopes.{WalkScope}
use Rattle.module_flow_state.specs.World.{World}
use Rattle.module_flow_state.specs.steps.Walking.{noting, walk_scope_of, world_of}
use Rattle.module_flow_walk.specs.Findings.{found, found_in_all, found_in_pairs, found_in_segments}
use Rattle.module_flow_walk.specs.Contributions.{contributions, contributions_of_all, contributions_of_pairs, contributions_of_segments}
use Rattle.module_flow_walk.specs.Walk.{walk, walk_all, walk_pairs, walk_segments}

-- what an expression gives, and the walk after it
abbrev pub walked : WalkContext → FlowWalk → Ask → m.Tree → Given
walked a w k t = walk (world_of a) (walk_scope_of w) k t

abbrev pub after : WalkContext → NodeContext → FlowWalk → Ask → m.Tree → FlowWalk
after a around w k t = noting w (contributions (world_of a) (walk_scope_of w) k t) (found (world_of a) around (walk_scope_of w) k t)

-- the same of expressions of each of which one value is asked
abbrev pub walked_all : WalkContext → FlowWalk → m.Trees → Given
walked_all a w ts = walk_all (world_of a) (walk_scope_of w) ts

abbrev pub after_all : WalkContext → NodeContext → FlowWalk → m.Trees → FlowWalk
after_all a around w ts =
    noting w (contributions_of_all (world_of a) (walk_scope_of w) ts) (found_in_all (world_of a) around (walk_scope_of w) ts)

-- of the pairs of a map
abbrev pub walked_pairs : WalkContext → FlowWalk → m.Pairs → Given
walked_pairs a w ps = walk_pairs (world_of a) (walk_scope_of w) ps

abbrev pub after_pairs : WalkContext → NodeContext → FlowWalk → m.Pairs → FlowWalk
after_pairs a around w ps =
    noting w (contributions_of_pairs (world_of a) (walk_scope_of w) ps) (found_in_pairs (world_of a) around (walk_scope_of w) ps)

-- and of the segments of a binary
abbrev pub walked_segments : WalkContext → FlowWalk → m.Segments → Given
walked_segments a w ss = walk_segments (world_of a) (walk_scope_of w) ss

abbrev pub after_segments : WalkContext → NodeContext → FlowWalk → m.Segments → FlowWalk
after_segments a around w ss =
    noting w (contributions_of_segments (world_of a) (walk_scope_of w) ss) (found_in_segments (world_of a) around (walk_scope_of w) ss)

-- with the types of a solution
abbrev pub with_solved : WalkScope → Types → WalkScope
with_solved sc ts = record { variables = sc.variables; functions = sc.functions; labels = sc.labels; types = ts }

-- what is seen, where all was given
abbrev pub sees : Bool → WalkScope → Option WalkScope
sees there sc = cond there (Some sc) None

-- what is found in one step, inside whose note one stands
abbrev pub step_found : World → NodeContext → WalkScope → StepOf Expr → List Finding
step_found W a sc (Let i xs e) = found W a sc (Exactly (length xs)) (tree e)
step_found W a sc (Do i e) = found W a sc AnyNumber (tree e)
