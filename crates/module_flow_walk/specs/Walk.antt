-- The walk of an expression: the types of its values, as many as are asked for, or that it gives none. Where a part gives none
-- the whole gives none.
use Rattle.std.specs.Prelude.{ℕ, cond, List, [], ◌∷◌, length, replicate, Option, Some, None}
use Rattle.type_kinds.specs.declared.atom.Atom.{Atom}
use Rattle.core_ast.specs.Model as m
use Rattle.core_ast.specs.Named.{local_name}
use Rattle.core_scope.specs.declared.ask.Ask.{Ask}
use Rattle.core_scope.specs.declared.ask.Ask.TheVariants.{AnyNumber, Exactly}
use Rattle.core_scope.specs.Asks.{one_value, is_raising, width}
use Rattle.type_lattice.specs.Types.{Type4, any, tuple}
use Rattle.type_lattice.specs.Kinds.{of_kind}
use Rattle.type_lattice.specs.declared.kinds.Kind.TheVariants.{Bitstring, Map}
use Rattle.cons_tree.specs.Environments.{Types, State}
use Rattle.cons_tree.specs.Named.{naturals}
use Rattle.cons_gen_rows.specs.Counts.{passed_on, whatever_asked, call_names}
use Rattle.cons_gen_rows.specs.Words.{function_type, literal_type}
use Rattle.module_flow_calls.specs.TypeLists.{Given, as_many, either, first, list_type, value}
use Rattle.module_flow_calls.specs.Calls.{called}
use Rattle.module_flow_state.specs.Applications.{applied, where_meets}
use Rattle.module_flow_walk.specs.Clauses.{head_solved, inside}
use Rattle.module_flow_state.specs.Scopes.{WalkScope, argument_names, argument_slots, matching, of_variable, type_of, with_functions, with_variables}
use Rattle.module_flow_state.specs.World.{World, strict}

-- goes on with what is given
abbrev pub then : Given → (List Type4 → Given) → Given
then None f = None
then (Some ts) f = f ts

-- goes on with what is seen, and sees on with what is given
abbrev pub then_seen : Option WalkScope → (WalkScope → Given) → Given
then_seen None f = None
then_seen (Some sc) f = f sc

abbrev pub see_given : Given → (List Type4 → Option WalkScope) → Option WalkScope
see_given None f = None
see_given (Some ts) f = f ts

-- the one where there is a name, and the other where there is none
abbrev pub if_named : {A : Type 0} → Option A → (A → Given) → Given → Given
if_named None f g = g
if_named (Some x) f g = f x

-- goes on with what is solved
abbrev pub then_inside : State → (Types → Given) → Given
then_inside None f = None
then_inside (Some ts) f = f ts

-- as many types as are asked of a form that passes on what is asked
abbrev pub passed : Ask → Given → Given
passed k g = then g (λ ts. Some (as_many (passed_on k) ts))

-- a primop gives whatever is asked, but for those that only raise
abbrev pub by_primop : Ask → Atom → Given
by_primop k x = cond (is_raising x) None (Some (replicate (whatever_asked k) any))

-- what is seen where the clauses of a `case` are tried, and the slots of what they match
abbrev pub seen_by_clauses : WalkScope → m.Clauses → List Type4 → WalkScope
seen_by_clauses sc cs ts = matching sc (as_many (width cs) ts)

abbrev pub matched_slots : WalkScope → m.Tree → m.Clauses → List ℕ
matched_slots sc t cs = argument_slots sc.variables (length sc.types) (argument_names t (width cs))

-- what is seen where the clauses of a `receive` are tried: a message may be anything
abbrev pub seen_by_messages : WalkScope → WalkScope
seen_by_messages sc = matching sc (any ∷ [])

module _ (W : World) where
  abbrev mutual
    pub walk : WalkScope → Ask → m.Tree → Given
    walk sc k (m.variable i x) = of_variable (type_of sc x)
    walk sc k (m.local i f) = value (function_type f.arity)
    walk sc k (m.external i x f) = value (function_type f.arity)
    walk sc k (m.literal i l) = value (literal_type l)
    walk sc k (m.function i xs t) = value (function_type (length xs))
    walk sc k (m.listed i ts t) = then (walk_all sc ts) (λ hs. then (walk sc one_value t) (λ us. value (list_type hs (first us))))
    walk sc k (m.tuple i ts) = then (walk_all sc ts) (λ us. value (tuple us))
    walk sc k (m.new_map i ps) = then (walk_pairs sc ps) (λ us. value (of_kind Map))
    walk sc k (m.updated_map i ps t) =
        then (walk_pairs sc ps) (λ us. then (walk sc one_value t) (λ old. where_meets (first old) (of_kind Map) (value (of_kind Map))))
    walk sc k (m.binary i ss) = then (walk_segments sc ss) (λ us. value (of_kind Bitstring))
    walk sc k (m.values i ts) = passed k (walk_all sc ts)
    walk sc k (m.chain i ss t) = then_seen (see_steps sc ss) (λ inner. passed k (walk inner k t))
    walk sc k (m.case i t cs) =
        then (walk sc (Exactly (width cs)) t)
        (λ ts. walk_clauses (seen_by_clauses sc cs ts) k (matched_slots sc t cs) cs)
    walk sc k (m.letrec i ds t) = passed k (walk (with_functions sc ds) k t)
    walk sc k (m.apply i t ts) =
        if_named (local_name t)
        (λ f. then (walk_all sc ts) (λ us. applied W sc f us))
        (then (walk sc one_value t)
        (λ operator. then (walk_all sc ts) (λ us. where_meets (first operator) (function_type (length us)) (value any))))
    walk sc k (m.call i t u ts) =
        if_named (call_names t u)
        (λ names. then (walk_all sc ts) (λ us. called (strict W) names.0 names.1 us))
        (then (walk sc one_value t) (λ home. then (walk sc one_value u) (λ name. then (walk_all sc ts) (λ us. value any))))
    walk sc k (m.primop i x ts) = then (walk_all sc ts) (λ us. by_primop k x)
    walk sc k (m.try i t xs u ys w) =
        either
        (then (walk sc (Exactly (length xs)) t) (λ ts. passed k (walk (with_variables sc xs ts) k u)))
        (passed k (walk (with_variables sc ys []) k w))
    walk sc k (m.receive i cs t u) =
        then (walk sc one_value t)
        (λ limit. either
        (walk_clauses (seen_by_messages sc) k (length sc.types ∷ []) cs)
        (where_meets (first limit) naturals (passed k (walk sc k u))))
    walk sc k (m.catch i t) = value any

    -- one type for each expression
    pub walk_all : WalkScope → m.Trees → Given
    walk_all sc m.no_tree = Some []
    walk_all sc (m.and_tree t ts) = then (walk sc one_value t) (λ us. then (walk_all sc ts) (λ more. Some (first us ∷ more)))

    -- the keys and the values of pairs, and the values of segments with their arguments: no type, where each has one
    pub walk_pairs : WalkScope → m.Pairs → Given
    walk_pairs sc m.no_pair = Some []
    walk_pairs sc (m.and_pair exact t u ps) =
        then (walk sc one_value t) (λ key. then (walk sc one_value u) (λ held. walk_pairs sc ps))

    pub walk_segments : WalkScope → m.Segments → Given
    walk_segments sc m.no_segment = Some []
    walk_segments sc (m.and_segment t ts ss) =
        then (walk sc one_value t) (λ us. then (walk_all sc ts) (λ args. walk_segments sc ss))

    -- what is seen behind the steps of a chain, where each gives values
    pub see_steps : WalkScope → m.Steps → Option WalkScope
    see_steps sc m.no_step = Some sc
    see_steps sc (m.and_let i xs u ss) =
        see_given (walk sc (Exactly (length xs)) u) (λ us. see_steps (with_variables sc xs us) ss)
    see_steps sc (m.and_do i u ss) = see_given (walk sc AnyNumber u) (λ us. see_steps sc ss)

    -- the clauses that may match, where qs are the slots of what is matched, which is seen
    pub walk_clauses : WalkScope → Ask → List ℕ → m.Clauses → Given
    walk_clauses sc k qs m.no_clause = None
    walk_clauses sc k qs (m.and_clause i ps g t cs) =
        either
        (then_inside (head_solved W sc qs ps g) (λ solved. passed k (walk (inside sc ps solved) k t)))
        (walk_clauses sc k qs cs)
