-- What the walks of forms that put values together, and of calls, give and note.
use Rattle.std.specs.Prelude.{◌++◌, length}
use Rattle.type_kinds.specs.declared.atom.Atom.{Atom}
use Rattle.core_ast.specs.declared.syntax.FunName.{FunName}
use Rattle.core_ast.specs.declared.syntax.Mark.{Mark}
use Rattle.core_ast.specs.Model as m
use Rattle.core_scope.specs.declared.ask.Ask.{Ask}
use Rattle.core_scope.specs.Asks.{function_name, one_value}
use Rattle.type_lattice.specs.Types.{any, tuple}
use Rattle.type_lattice.specs.Kinds.{of_kind}
use Rattle.type_lattice.specs.declared.kinds.Kind.TheVariants.{Bitstring, Map}
use Rattle.cons_gen_rows.specs.Words.{function_type}
use Rattle.warn_list.specs.declared.finding.FindingKind.TheVariants.{DeadCall}
use Rattle.warn_list.specs.declared.finding.CallText.TheVariants.{Local, Remote, Value}
use Rattle.module_flow_calls.specs.declared.node_context.NodeContext.{NodeContext}
use Rattle.module_flow_calls.specs.Calls.{called}
use Rattle.module_flow_calls.specs.NodeContext.{at_node}
use Rattle.module_flow_calls.specs.TypeLists.{Given, first, list_type, value, where_given}
use Rattle.module_flow_state.specs.declared.walk.WalkContext.{WalkContext}
use Rattle.module_flow_state.specs.declared.walk.FlowWalk.{FlowWalk}
use Rattle.module_flow_state.specs.Applications.{applied, enters, may_apply, unless_function, unless_given, where_meets}
use Rattle.module_flow_state.specs.Scopes.{WalkScope}
use Rattle.module_flow_state.specs.World.{World, lenient, strict}
use Rattle.module_flow_state.specs.steps.Walking.{noting, walk_scope_of, world_of}
use Rattle.module_flow_walk.specs.Contributions.{contributions, contributions_of_all, contributions_of_pairs}
use Rattle.module_flow_walk.specs.Findings.{found, found_in_all, found_in_pairs}
use Rattle.module_flow_walk.specs.Walk.{by_primop, then, walk}
use Rattle.module_flow_walk.specs.steps.Walked.{walked, walked_all, walked_pairs, walked_segments}

-- a list: its elements, and then its tail
abbrev pub walked_listed : WalkContext → FlowWalk → m.Trees → m.Tree → Given
walked_listed a w ts t = then (walked_all a w ts) (λ hs. then (walked a w one_value t) (λ us. value (list_type hs (first us))))

abbrev pub after_listed : WalkContext → NodeContext → FlowWalk → m.Trees → m.Tree → FlowWalk
after_listed a around w ts t =
    let W = world_of a in
    let sc = walk_scope_of w in
    noting w
    (contributions_of_all W sc ts ++ contributions W sc one_value t)
    (found_in_all W around sc ts ++ found W around sc one_value t)

-- a tuple, a new map and a binary: their parts
abbrev pub walked_tuple : WalkContext → FlowWalk → m.Trees → Given
walked_tuple a w ts = then (walked_all a w ts) (λ us. value (tuple us))

abbrev pub walked_new_map : WalkContext → FlowWalk → m.Pairs → Given
walked_new_map a w ps = then (walked_pairs a w ps) (λ us. value (of_kind Map))

abbrev pub walked_binary : WalkContext → FlowWalk → m.Segments → Given
walked_binary a w ss = then (walked_segments a w ss) (λ us. value (of_kind Bitstring))

-- the map that is updated, where it may be one
abbrev pub updated_given : World → WalkScope → m.Tree → Given
updated_given W sc t = then (walk W sc one_value t) (λ old. where_meets (first old) (of_kind Map) (value (of_kind Map)))

-- a map that updates another: its pairs, and then the other
abbrev pub walked_updated_map : WalkContext → FlowWalk → m.Pairs → m.Tree → Given
walked_updated_map a w ps t = then (walked_pairs a w ps) (λ us. updated_given (world_of a) (walk_scope_of w) t)

abbrev pub after_updated_map : WalkContext → NodeContext → FlowWalk → m.Pairs → m.Tree → FlowWalk
after_updated_map a around w ps t =
    let W = world_of a in
    let sc = walk_scope_of w in
    noting w
    (contributions_of_pairs W sc ps ++ contributions W sc one_value t)
    (found_in_pairs W around sc ps ++ found W around sc one_value t)

-- the application of a name: its arguments, and then the function is entered with their types
abbrev pub walked_application : WalkContext → FlowWalk → FunName → m.Trees → Given
walked_application a w f ts = then (walked_all a w ts) (λ us. applied (world_of a) (walk_scope_of w) f us)

abbrev pub after_application : WalkContext → NodeContext → FlowWalk → Mark → FunName → m.Trees → FlowWalk
after_application a around w i f ts =
    let W = world_of a in
    let sc = walk_scope_of w in
    noting w
    (contributions_of_all W sc ts ++ where_given (walked_all a w ts) (λ us. enters W sc f us))
    (found_in_all W around sc ts
    ++ where_given (walked_all a w ts) (λ us. unless_given (may_apply W sc f us) (at_node around i (DeadCall (Local f)))))

-- the application of a value: the value, and then its arguments
abbrev pub walked_operator : WalkContext → FlowWalk → m.Tree → m.Trees → Given
walked_operator a w t ts =
    then (walked a w one_value t)
    (λ operator. then (walked_all a w ts) (λ us. where_meets (first operator) (function_type (length us)) (value any)))

abbrev pub after_operator : WalkContext → NodeContext → FlowWalk → Mark → m.Tree → m.Trees → FlowWalk
after_operator a around w i t ts =
    let W = world_of a in
    let sc = walk_scope_of w in
    noting w
    (contributions W sc one_value t ++ contributions_of_all W sc ts)
    (found W around sc one_value t ++ found_in_all W around sc ts
    ++ where_given (walked a w one_value t)
    (λ operator. where_given (walked_all a w ts)
    (λ us. unless_function (first operator) (length us) (at_node around i (DeadCall (Value (length us)))))))

-- a call by a literal module and name: its arguments, with whose types it is called
abbrev pub walked_named_call : WalkContext → FlowWalk → (home name : Atom) → m.Trees → Given
walked_named_call a w home name ts = then (walked_all a w ts) (λ us. called (strict (world_of a)) home name us)

abbrev pub after_named_call : WalkContext → NodeContext → FlowWalk → Mark → (home name : Atom) → m.Trees → FlowWalk
after_named_call a around w i home name ts =
    let W = world_of a in
    let sc = walk_scope_of w in
    noting w
    (contributions_of_all W sc ts)
    (found_in_all W around sc ts
    ++ where_given (walked_all a w ts)
    (λ us. unless_given (called (lenient W) home name us)
    (at_node around i (DeadCall (Remote home (function_name name (length us)))))))

-- any other call: its module, its name and its arguments
abbrev pub walked_call : WalkContext → FlowWalk → (home name : m.Tree) → m.Trees → Given
walked_call a w t u ts =
    then (walked a w one_value t) (λ home. then (walked a w one_value u) (λ name. then (walked_all a w ts) (λ us. value any)))

abbrev pub after_call : WalkContext → NodeContext → FlowWalk → (home name : m.Tree) → m.Trees → FlowWalk
after_call a around w t u ts =
    let W = world_of a in
    let sc = walk_scope_of w in
    noting w
    (contributions W sc one_value t ++ contributions W sc one_value u ++ contributions_of_all W sc ts)
    (found W around sc one_value t ++ found W around sc one_value u ++ found_in_all W around sc ts)

-- a primop: its arguments
abbrev pub walked_primop : WalkContext → FlowWalk → Ask → Atom → m.Trees → Given
walked_primop a w k x ts = then (walked_all a w ts) (λ us. by_primop k x)
