-- What a walk reports: calls that never return, and clauses that can never match. Nothing is reported inside a guard, nor at a
-- node that has, or stands inside, a note which says that the compiler made it.
use Rattle.std.specs.Prelude.{ℕ, List, [], ◌∷◌, ◌++◌, length, Some, None}
use Rattle.core_ast.specs.Model as m
use Rattle.core_ast.specs.Named.{local_name}
use Rattle.core_scope.specs.declared.ask.Ask.{Ask}
use Rattle.core_scope.specs.declared.ask.Ask.TheVariants.{AnyNumber, Exactly}
use Rattle.core_scope.specs.Asks.{one_value, function_name, width}
use Rattle.cons_tree.specs.Environments.{Types, State}
use Rattle.cons_gen_rows.specs.Counts.{call_names}
use Rattle.warn_list.specs.declared.finding.Finding.{Finding}
use Rattle.warn_list.specs.declared.finding.FindingKind.TheVariants.{DeadCall, DeadClause}
use Rattle.warn_list.specs.declared.finding.CallText.TheVariants.{Local, Remote, Value}
use Rattle.module_flow_calls.specs.declared.node_context.NodeContext.{NodeContext}
use Rattle.module_flow_calls.specs.NodeContext.{under, under_steps, at_node}
use Rattle.module_flow_calls.specs.TypeLists.{first, where_given}
use Rattle.module_flow_calls.specs.Calls.{called}
use Rattle.module_flow_state.specs.Applications.{may_apply, unless_function, unless_given}
use Rattle.module_flow_walk.specs.Clauses.{head_solved, inside}
use Rattle.module_flow_walk.specs.Contributions.{listed_by, where_entered, where_limited, where_seen}
use Rattle.module_flow_state.specs.Scopes.{WalkScope, with_functions, with_variables}
use Rattle.module_flow_state.specs.States.{parameters_of}
use Rattle.module_flow_walk.specs.Walk.{matched_slots, seen_by_clauses, seen_by_messages, see_steps, walk, walk_all}
use Rattle.module_flow_state.specs.World.{World, lenient}

-- what is found where the head of a clause can't hold, and where it can
abbrev pub either_found : State → List Finding → (Types → List Finding) → List Finding
either_found None dead f = dead
either_found (Some ts) dead f = f ts

module _ (W : World) where
  abbrev mutual
    pub found : NodeContext → WalkScope → Ask → m.Tree → List Finding
    found a sc k (m.variable i x) = []
    found a sc k (m.local i f) = []
    found a sc k (m.external i x f) = []
    found a sc k (m.literal i l) = []
    found a sc k (m.function i xs t) = found (under a i.note) (with_variables sc xs []) one_value t
    found a sc k (m.listed i ts t) = found_in_all (under a i.note) sc ts ++ found (under a i.note) sc one_value t
    found a sc k (m.tuple i ts) = found_in_all (under a i.note) sc ts
    found a sc k (m.new_map i ps) = found_in_pairs (under a i.note) sc ps
    found a sc k (m.updated_map i ps t) = found_in_pairs (under a i.note) sc ps ++ found (under a i.note) sc one_value t
    found a sc k (m.binary i ss) = found_in_segments (under a i.note) sc ss
    found a sc k (m.values i ts) = found_in_all (under a i.note) sc ts
    found a sc k (m.chain i ss t) =
        found_in_steps (under a i.note) sc ss
        ++ where_seen (see_steps W sc ss) (λ inner. found (under_steps (under a i.note) ss) inner k t)
    found a sc k (m.case i t cs) =
        found (under a i.note) sc (Exactly (width cs)) t
        ++ where_given (walk W sc (Exactly (width cs)) t)
        (λ ts. found_in_clauses (under a i.note) (seen_by_clauses sc cs ts) k (matched_slots sc t cs) cs)
    found a sc k (m.letrec i ds t) =
        found_in_functions (under a i.note) (with_functions sc ds) ds ++ found (under a i.note) (with_functions sc ds) k t
    -- an application is reported where all that it needs is given and it never returns
    found a sc k (m.apply i t ts) =
        listed_by (local_name t)
        (λ f. found_in_all (under a i.note) sc ts
        ++ where_given (walk_all W sc ts)
        (λ us. unless_given (may_apply W sc f us) (at_node (under a i.note) i (DeadCall (Local f)))))
        (found (under a i.note) sc one_value t ++ found_in_all (under a i.note) sc ts
        ++ where_given (walk W sc one_value t)
        (λ operator. where_given (walk_all W sc ts)
        (λ us. unless_function (first operator) (length us)
        (at_node (under a i.note) i (DeadCall (Value (length us)))))))
    -- and so is a call
    found a sc k (m.call i t u ts) =
        listed_by (call_names t u)
        (λ names. found_in_all (under a i.note) sc ts
        ++ where_given (walk_all W sc ts)
        (λ us. unless_given (called (lenient W) names.0 names.1 us)
        (at_node (under a i.note) i (DeadCall (Remote names.0 (function_name names.1 (length us)))))))
        (found (under a i.note) sc one_value t ++ found (under a i.note) sc one_value u
        ++ found_in_all (under a i.note) sc ts)
    found a sc k (m.primop i x ts) = found_in_all (under a i.note) sc ts
    found a sc k (m.try i t xs u ys w) =
        found (under a i.note) sc (Exactly (length xs)) t
        ++ where_given (walk W sc (Exactly (length xs)) t) (λ ts. found (under a i.note) (with_variables sc xs ts) k u)
        ++ found (under a i.note) (with_variables sc ys []) k w
    found a sc k (m.receive i cs t u) =
        found (under a i.note) sc one_value t
        ++ where_given (walk W sc one_value t)
        (λ limit. found_in_clauses (under a i.note) (seen_by_messages sc) k (length sc.types ∷ []) cs
        ++ where_limited limit (found (under a i.note) sc k u))
    found a sc k (m.catch i t) = found (under a i.note) sc one_value t

    pub found_in_all : NodeContext → WalkScope → m.Trees → List Finding
    found_in_all a sc m.no_tree = []
    found_in_all a sc (m.and_tree t ts) = found a sc one_value t ++ found_in_all a sc ts

    pub found_in_pairs : NodeContext → WalkScope → m.Pairs → List Finding
    found_in_pairs a sc m.no_pair = []
    found_in_pairs a sc (m.and_pair exact t u ps) =
        found a sc one_value t ++ found a sc one_value u ++ found_in_pairs a sc ps

    pub found_in_segments : NodeContext → WalkScope → m.Segments → List Finding
    found_in_segments a sc m.no_segment = []
    found_in_segments a sc (m.and_segment t ts ss) =
        found a sc one_value t ++ found_in_all a sc ts ++ found_in_segments a sc ss

    -- the steps of a chain, one after another
    pub found_in_steps : NodeContext → WalkScope → m.Steps → List Finding
    found_in_steps a sc m.no_step = []
    found_in_steps a sc (m.and_let i xs u ss) =
        found (under a i.note) sc (Exactly (length xs)) u
        ++ where_given (walk W sc (Exactly (length xs)) u) (λ us. found_in_steps (under a i.note) (with_variables sc xs us) ss)
    found_in_steps a sc (m.and_do i u ss) =
        found (under a i.note) sc AnyNumber u
        ++ where_given (walk W sc AnyNumber u) (λ us. found_in_steps (under a i.note) sc ss)

    -- a clause whose head can't hold is reported, and the bodies of the others are walked
    pub found_in_clauses : NodeContext → WalkScope → Ask → List ℕ → m.Clauses → List Finding
    found_in_clauses a sc k qs m.no_clause = []
    found_in_clauses a sc k qs (m.and_clause i ps g t cs) =
        either_found (head_solved W sc qs ps g) (at_node (under a i.note) i DeadClause)
        (λ solved. found (under a i.note) (inside sc ps solved) k t)
        ++ found_in_clauses a sc k qs cs

    -- the functions that are entered
    pub found_in_functions : NodeContext → WalkScope → m.Defs → List Finding
    found_in_functions a sc m.no_def = []
    found_in_functions a sc (m.and_def f i xs t ds) =
        where_entered (parameters_of W.state i.label) (λ ts. found (under a i.note) (with_variables sc xs ts) one_value t)
        ++ found_in_functions a sc ds
