-- What the walks of clauses, and of the forms that bind variables, choose and wait, give and note.
use Rattle.std.specs.Prelude.{◌≡◌, ◌++◌, ◌∷◌, ℕ, Bool, List, [], cond, length, Option, Some, None}
use Rattle.core_ast.specs.declared.syntax.Expr.{Expr}
use Rattle.core_ast.specs.declared.syntax.Mark.{Mark}
use Rattle.core_ast.specs.declared.syntax.StepOf.{StepOf}
use Rattle.core_ast.specs.declared.syntax.TryOf.{TryOf}
use Rattle.core_ast.specs.declared.syntax.VarName.{VarName}
use Rattle.core_ast.specs.Model as m
use Rattle.core_ast.specs.Tree.{all_steps, tree}
use Rattle.core_scope.specs.Asks.{one_value, width}
use Rattle.core_scope.specs.declared.ask.Ask.{Ask}
use Rattle.core_scope.specs.declared.ask.Ask.TheVariants.{Exactly}
use Rattle.type_lattice.specs.Types.{Type4, is_none, meet}
use Rattle.cons_tree.specs.Constraints.{Cons}
use Rattle.cons_tree.specs.Named.{naturals}
use Rattle.cons_tree.specs.declared.parts.Part.{Part}
use Rattle.cons_solve.specs.Environments.{solution}
use Rattle.warn_list.specs.declared.finding.FindingKind.TheVariants.{DeadClause}
use Rattle.module_flow_calls.specs.declared.node_context.NodeContext.{NodeContext}
use Rattle.module_flow_calls.specs.NodeContext.{at_node, under_steps}
use Rattle.module_flow_calls.specs.TypeLists.{Given, either, first, where_given}
use Rattle.module_flow_state.specs.declared.walk.WalkContext.{WalkContext}
use Rattle.module_flow_state.specs.declared.walk.FlowWalk.{FlowWalk}
use Rattle.module_flow_state.specs.Applications.{where_meets}
use Rattle.module_flow_state.specs.Scopes.{WalkScope, matching, with_functions, with_variables}
use Rattle.module_flow_state.specs.steps.Walking.{Grows, noting, walk_scope_of, world_of}
use Rattle.module_flow_walk.specs.Contributions.{contributions, contributions_of_clauses, contributions_of_functions}
use Rattle.module_flow_walk.specs.Contributions.{contributions_of_steps, where_limited, where_seen, where_solved}
use Rattle.module_flow_walk.specs.Findings.{either_found, found, found_in_clauses, found_in_functions, found_in_steps}
use Rattle.module_flow_walk.specs.Walk.{matched_slots, passed, see_given, see_steps, seen_by_clauses, seen_by_messages}
use Rattle.module_flow_walk.specs.Walk.{then, then_inside, then_seen, walk, walk_clauses}
use Rattle.module_flow_walk.specs.steps.Walked.{step_found, walked, with_solved}

-- ---- an expression in another position

-- where it also sees variables of these types
abbrev pub walked_under : WalkContext → FlowWalk → Ask → List VarName → List Type4 → m.Tree → Given
walked_under a w k xs ts t = walk (world_of a) (with_variables (walk_scope_of w) xs ts) k t

abbrev pub after_under : WalkContext → NodeContext → FlowWalk → Ask → List VarName → List Type4 → m.Tree → FlowWalk
after_under a around w k xs ts t =
    let W = world_of a in
    let inner = with_variables (walk_scope_of w) xs ts in
    noting w (contributions W inner k t) (found W around inner k t)

-- where it passes on what is asked, if it stands there
abbrev pub passed_if : Bool → WalkContext → FlowWalk → Ask → m.Tree → Given
passed_if there a w k t = cond there (passed k (walked a w k t)) None

abbrev pub after_if : Bool → WalkContext → NodeContext → FlowWalk → Ask → m.Tree → FlowWalk
after_if there a around w k t =
    let W = world_of a in
    let sc = walk_scope_of w in
    noting w (cond there (contributions W sc k t) []) (cond there (found W around sc k t) [])

-- where nothing is reported in it
abbrev pub after_quietly : WalkContext → FlowWalk → m.Tree → FlowWalk
after_quietly a w t = noting w (contributions (world_of a) (walk_scope_of w) one_value t) []

abbrev pub after_quietly_if : Bool → WalkContext → FlowWalk → m.Tree → FlowWalk
after_quietly_if there a w t = noting w (cond there (contributions (world_of a) (walk_scope_of w) one_value t) []) []

-- ---- chains

-- what is seen behind steps, and behind a `let` alone
abbrev pub seen_behind : WalkContext → FlowWalk → m.Steps → Option WalkScope
seen_behind a w ss = see_steps (world_of a) (walk_scope_of w) ss

abbrev pub seen_behind_let : WalkContext → FlowWalk → List VarName → m.Tree → Option WalkScope
seen_behind_let a w xs t =
    see_given (walked a w (Exactly (length xs)) t) (λ us. Some (with_variables (walk_scope_of w) xs us))

-- the walk has grown by what steps note, by what one of them notes, and by what the expression of a `let` notes
abbrev pub GrowsBySteps : WalkContext → NodeContext → (old new : FlowWalk) → m.Steps → Type 0
GrowsBySteps a around w v ss =
    let W = world_of a in
    let sc = walk_scope_of w in
    Grows w v (contributions_of_steps W sc ss) (found_in_steps W around sc ss)

abbrev pub GrowsByStep : WalkContext → NodeContext → (old new : FlowWalk) → StepOf Expr → Type 0
GrowsByStep a around w v step =
    let W = world_of a in
    let sc = walk_scope_of w in
    Grows w v (contributions_of_steps W sc (all_steps (step ∷ []))) (step_found W around sc step)

abbrev pub GrowsByLet : WalkContext → NodeContext → (old new : FlowWalk) → List VarName → m.Tree → Type 0
GrowsByLet a around w v xs t =
    let W = world_of a in
    let sc = walk_scope_of w in
    Grows w v (contributions W sc (Exactly (length xs)) t) (found W around sc (Exactly (length xs)) t)

-- a chain: its steps, and where they are seen through its last expression
abbrev pub walked_chain : WalkContext → FlowWalk → Ask → m.Steps → m.Tree → Given
walked_chain a w k ss t = then_seen (seen_behind a w ss) (λ inner. passed k (walk (world_of a) inner k t))

abbrev pub after_chain : WalkContext → NodeContext → FlowWalk → Ask → m.Steps → m.Tree → FlowWalk
after_chain a around w k ss t =
    let W = world_of a in
    let sc = walk_scope_of w in
    noting w
    (contributions_of_steps W sc ss ++ where_seen (seen_behind a w ss) (λ inner. contributions W inner k t))
    (found_in_steps W around sc ss
    ++ where_seen (seen_behind a w ss) (λ inner. found W (under_steps around ss) inner k t))

-- ---- functions

-- those of a `letrec` that are entered
abbrev pub after_functions : WalkContext → NodeContext → FlowWalk → m.Defs → FlowWalk
after_functions a around w ds =
    let W = world_of a in
    let sc = walk_scope_of w in
    noting w (contributions_of_functions W sc ds) (found_in_functions W around sc ds)

-- a `letrec`: its functions, and then its body
abbrev pub walked_letrec : WalkContext → FlowWalk → Ask → m.Defs → m.Tree → Given
walked_letrec a w k ds t = passed k (walk (world_of a) (with_functions (walk_scope_of w) ds) k t)

abbrev pub after_letrec : WalkContext → NodeContext → FlowWalk → Ask → m.Defs → m.Tree → FlowWalk
after_letrec a around w k ds t =
    let W = world_of a in
    let inner = with_functions (walk_scope_of w) ds in
    noting w
    (contributions_of_functions W inner ds ++ contributions W inner k t)
    (found_in_functions W around inner ds ++ found W around inner k t)

-- ---- a `try`

-- its first expression, and its body where that gives values
abbrev pub walked_tried : WalkContext → FlowWalk → Ask → TryOf Expr → Given
walked_tried a w k p =
    then (walked a w (Exactly (length p.vars)) (tree p.arg)) (λ ts. passed k (walked_under a w k p.vars ts (tree p.body)))

abbrev pub after_tried : WalkContext → NodeContext → FlowWalk → Ask → TryOf Expr → FlowWalk
after_tried a around w k p =
    let W = world_of a in
    let sc = walk_scope_of w in
    let tried = walked a w (Exactly (length p.vars)) (tree p.arg) in
    noting w
    (contributions W sc (Exactly (length p.vars)) (tree p.arg)
    ++ where_given tried (λ ts. contributions W (with_variables sc p.vars ts) k (tree p.body)))
    (found W around sc (Exactly (length p.vars)) (tree p.arg)
    ++ where_given tried (λ ts. found W around (with_variables sc p.vars ts) k (tree p.body)))

-- and then its handler
abbrev pub walked_try : WalkContext → FlowWalk → Ask → TryOf Expr → Given
walked_try a w k p = either (walked_tried a w k p) (passed k (walked_under a w k p.catch_vars [] (tree p.handler)))

abbrev pub after_try : WalkContext → NodeContext → FlowWalk → Ask → TryOf Expr → FlowWalk
after_try a around w k p =
    let W = world_of a in
    let sc = walk_scope_of w in
    let tried = walked a w (Exactly (length p.vars)) (tree p.arg) in
    noting w
    (contributions W sc (Exactly (length p.vars)) (tree p.arg)
    ++ where_given tried (λ ts. contributions W (with_variables sc p.vars ts) k (tree p.body))
    ++ contributions W (with_variables sc p.catch_vars []) k (tree p.handler))
    (found W around sc (Exactly (length p.vars)) (tree p.arg)
    ++ where_given tried (λ ts. found W around (with_variables sc p.vars ts) k (tree p.body))
    ++ found W around (with_variables sc p.catch_vars []) k (tree p.handler))

-- ---- clauses

-- for what is matched at the slots qs
abbrev pub walked_clauses : WalkContext → FlowWalk → Ask → List ℕ → m.Clauses → Given
walked_clauses a w k qs cs = walk_clauses (world_of a) (walk_scope_of w) k qs cs

abbrev pub after_clauses : WalkContext → NodeContext → FlowWalk → Ask → List ℕ → m.Clauses → FlowWalk
after_clauses a around w k qs cs =
    let W = world_of a in
    let sc = walk_scope_of w in
    noting w (contributions_of_clauses W sc k qs cs) (found_in_clauses W around sc k qs cs)

-- where also values of these types stand at the next slots
abbrev pub walked_matching : WalkContext → FlowWalk → Ask → List Type4 → List ℕ → m.Clauses → Given
walked_matching a w k ts qs cs = walk_clauses (world_of a) (matching (walk_scope_of w) ts) k qs cs

abbrev pub after_matching : WalkContext → NodeContext → FlowWalk → Ask → List Type4 → List ℕ → m.Clauses → FlowWalk
after_matching a around w k ts qs cs =
    let W = world_of a in
    let inner = matching (walk_scope_of w) ts in
    noting w (contributions_of_clauses W inner k qs cs) (found_in_clauses W around inner k qs cs)

-- a `case`: its argument, and then its clauses
abbrev pub walked_case : WalkContext → FlowWalk → Ask → m.Tree → m.Clauses → Given
walked_case a w k t cs =
    let sc = walk_scope_of w in
    then (walked a w (Exactly (width cs)) t)
    (λ ts. walk_clauses (world_of a) (seen_by_clauses sc cs ts) k (matched_slots sc t cs) cs)

abbrev pub after_case : WalkContext → NodeContext → FlowWalk → Ask → m.Tree → m.Clauses → FlowWalk
after_case a around w k t cs =
    let W = world_of a in
    let sc = walk_scope_of w in
    let argument = walked a w (Exactly (width cs)) t in
    noting w
    (contributions W sc (Exactly (width cs)) t
    ++ where_given argument (λ ts. contributions_of_clauses W (seen_by_clauses sc cs ts) k (matched_slots sc t cs) cs))
    (found W around sc (Exactly (width cs)) t
    ++ where_given argument (λ ts. found_in_clauses W around (seen_by_clauses sc cs ts) k (matched_slots sc t cs) cs))

-- the guard of a clause, where its patterns, of which c is the constraint, match
abbrev pub after_guard : WalkContext → FlowWalk → Cons Part → m.Tree → FlowWalk
after_guard a w c t =
    let W = world_of a in
    let sc = walk_scope_of w in
    noting w (where_solved (solution c w.types) (λ solved. contributions W (with_solved sc solved) one_value t)) []

-- the body of a clause, where its head, of which c is the constraint, may hold, or else the report that it can't
abbrev pub walked_body : WalkContext → FlowWalk → Ask → Cons Part → m.Tree → Given
walked_body a w k c t =
    then_inside (solution c w.types) (λ solved. passed k (walk (world_of a) (with_solved (walk_scope_of w) solved) k t))

abbrev pub after_body : WalkContext → NodeContext → FlowWalk → Ask → Mark → Cons Part → m.Tree → FlowWalk
after_body a around w k i c t =
    let W = world_of a in
    let sc = walk_scope_of w in
    noting w
    (where_solved (solution c w.types) (λ solved. contributions W (with_solved sc solved) k t))
    (either_found (solution c w.types) (at_node around i DeadClause) (λ solved. found W around (with_solved sc solved) k t))

abbrev pub after_body_if : Bool → WalkContext → NodeContext → FlowWalk → Ask → Mark → m.Tree → FlowWalk
after_body_if there a around w k i t =
    let W = world_of a in
    let sc = walk_scope_of w in
    noting w
    (cond there (contributions W sc k t) [])
    (cond there (found W around sc k t) (at_node around i DeadClause))

-- ---- a `receive`

-- its clauses: a message may be anything
abbrev pub walked_messages : WalkContext → FlowWalk → Ask → m.Clauses → Given
walked_messages a w k cs = walk_clauses (world_of a) (seen_by_messages (walk_scope_of w)) k (length w.types ∷ []) cs

abbrev pub after_messages : WalkContext → NodeContext → FlowWalk → Ask → m.Clauses → FlowWalk
after_messages a around w k cs =
    let W = world_of a in
    let inner = seen_by_messages (walk_scope_of w) in
    noting w
    (contributions_of_clauses W inner k (length w.types ∷ []) cs)
    (found_in_clauses W around inner k (length w.types ∷ []) cs)

-- its action, where its timeout, whose type is the limit, may end
abbrev pub walked_action : WalkContext → FlowWalk → Ask → Type4 → m.Tree → Given
walked_action a w k limit t = where_meets limit naturals (passed k (walked a w k t))

abbrev pub after_action : WalkContext → NodeContext → FlowWalk → Ask → Type4 → m.Tree → FlowWalk
after_action a around w k limit t =
    let W = world_of a in
    let sc = walk_scope_of w in
    noting w
    (cond (is_none (meet limit naturals)) [] (contributions W sc k t))
    (cond (is_none (meet limit naturals)) [] (found W around sc k t))

-- its timeout first, and where that gives a type its clauses and its action
abbrev pub walked_receive : WalkContext → FlowWalk → Ask → m.Clauses → (timeout action : m.Tree) → Given
walked_receive a w k cs t u =
    then (walked a w one_value t) (λ limit. either (walked_messages a w k cs) (walked_action a w k (first limit) u))

abbrev pub after_receive : WalkContext → NodeContext → FlowWalk → Ask → m.Clauses → (timeout action : m.Tree) → FlowWalk
after_receive a around w k cs t u =
    let W = world_of a in
    let sc = walk_scope_of w in
    let inner = seen_by_messages sc in
    noting w
    (contributions W sc one_value t
    ++ where_given (walked a w one_value t)
    (λ limit. contributions_of_clauses W inner k (length w.types ∷ []) cs ++ where_limited limit (contributions W sc k u)))
    (found W around sc one_value t
    ++ where_given (walked a w one_value t)
    (λ limit. found_in_clauses W around inner k (length w.types ∷ []) cs ++ where_limited limit (found W around sc k u)))
