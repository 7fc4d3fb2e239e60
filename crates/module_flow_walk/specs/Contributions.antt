-- What a walk gives to the state: with which types it enters functions, and what the functions of `letrec`s give. In the order
-- of the walk: in a `receive` the timeout comes first.
use Rattle.std.specs.Prelude.{ℕ, cond, List, [], ◌∷◌, ◌++◌, length, Option, Some, None}
use Rattle.core_ast.specs.Model as m
use Rattle.core_ast.specs.Named.{local_name}
use Rattle.core_scope.specs.declared.ask.Ask.{Ask}
use Rattle.core_scope.specs.declared.ask.Ask.TheVariants.{AnyNumber, Exactly}
use Rattle.core_scope.specs.Asks.{one_value, width}
use Rattle.type_lattice.specs.Types.{Type4, is_none, meet}
use Rattle.cons_tree.specs.Environments.{Types, State}
use Rattle.cons_tree.specs.Named.{naturals}
use Rattle.cons_gen_rows.specs.Counts.{call_names}
use Rattle.module_flow_state.specs.declared.states.Contribution.{Contribution}
use Rattle.module_flow_calls.specs.TypeLists.{first, where_given}
use Rattle.module_flow_walk.specs.Clauses.{patterns_solved, head_solved, inside}
use Rattle.module_flow_state.specs.Scopes.{WalkScope, with_functions, with_variables}
use Rattle.module_flow_state.specs.Applications.{enters}
use Rattle.module_flow_state.specs.States.{parameters_of, returns}
use Rattle.module_flow_walk.specs.Walk.{matched_slots, seen_by_clauses, seen_by_messages, see_steps, walk, walk_all}
use Rattle.module_flow_state.specs.World.{World}

-- what follows where a constraint is solved, and where a function is entered
abbrev pub where_solved : {A : Type 0} → State → (Types → List A) → List A
where_solved None f = []
where_solved (Some ts) f = f ts

abbrev pub where_entered : {A : Type 0} → Option (List Type4) → (List Type4 → List A) → List A
where_entered None f = []
where_entered (Some ts) f = f ts

-- the one where there is a name, and the other where there is none
abbrev pub listed_by : {A B : Type 0} → Option A → (A → List B) → List B → List B
listed_by None f xs = xs
listed_by (Some x) f xs = f x

-- what follows where steps are seen through
abbrev pub where_seen : {A : Type 0} → Option WalkScope → (WalkScope → List A) → List A
where_seen None f = []
where_seen (Some sc) f = f sc

-- what follows a timeout that may end
abbrev pub where_limited : {A : Type 0} → List Type4 → List A → List A
where_limited limit xs = cond (is_none (meet (first limit) naturals)) [] xs

module _ (W : World) where
  abbrev mutual
    pub contributions : WalkScope → Ask → m.Tree → List Contribution
    contributions sc k (m.variable i x) = []
    contributions sc k (m.local i f) = []
    contributions sc k (m.external i x f) = []
    contributions sc k (m.literal i l) = []
    contributions sc k (m.function i xs t) = contributions (with_variables sc xs []) one_value t
    contributions sc k (m.listed i ts t) = contributions_of_all sc ts ++ contributions sc one_value t
    contributions sc k (m.tuple i ts) = contributions_of_all sc ts
    contributions sc k (m.new_map i ps) = contributions_of_pairs sc ps
    contributions sc k (m.updated_map i ps t) = contributions_of_pairs sc ps ++ contributions sc one_value t
    contributions sc k (m.binary i ss) = contributions_of_segments sc ss
    contributions sc k (m.values i ts) = contributions_of_all sc ts
    contributions sc k (m.chain i ss t) = contributions_of_steps sc ss ++ where_seen (see_steps W sc ss) (λ inner. contributions inner k t)
    contributions sc k (m.case i t cs) =
        contributions sc (Exactly (width cs)) t
        ++ where_given (walk W sc (Exactly (width cs)) t)
        (λ ts. contributions_of_clauses (seen_by_clauses sc cs ts) k (matched_slots sc t cs) cs)
    contributions sc k (m.letrec i ds t) = contributions_of_functions (with_functions sc ds) ds ++ contributions (with_functions sc ds) k t
    contributions sc k (m.apply i t ts) =
        listed_by (local_name t)
        (λ f. contributions_of_all sc ts ++ where_given (walk_all W sc ts) (λ us. enters W sc f us))
        (contributions sc one_value t ++ contributions_of_all sc ts)
    contributions sc k (m.call i t u ts) =
        listed_by (call_names t u)
        (λ names. contributions_of_all sc ts)
        (contributions sc one_value t ++ contributions sc one_value u ++ contributions_of_all sc ts)
    contributions sc k (m.primop i x ts) = contributions_of_all sc ts
    contributions sc k (m.try i t xs u ys w) =
        contributions sc (Exactly (length xs)) t
        ++ where_given (walk W sc (Exactly (length xs)) t) (λ ts. contributions (with_variables sc xs ts) k u)
        ++ contributions (with_variables sc ys []) k w
    contributions sc k (m.receive i cs t u) =
        contributions sc one_value t
        ++ where_given (walk W sc one_value t)
        (λ limit. contributions_of_clauses (seen_by_messages sc) k (length sc.types ∷ []) cs
        ++ where_limited limit (contributions sc k u))
    contributions sc k (m.catch i t) = contributions sc one_value t

    pub contributions_of_all : WalkScope → m.Trees → List Contribution
    contributions_of_all sc m.no_tree = []
    contributions_of_all sc (m.and_tree t ts) = contributions sc one_value t ++ contributions_of_all sc ts

    pub contributions_of_pairs : WalkScope → m.Pairs → List Contribution
    contributions_of_pairs sc m.no_pair = []
    contributions_of_pairs sc (m.and_pair exact t u ps) = contributions sc one_value t ++ contributions sc one_value u ++ contributions_of_pairs sc ps

    pub contributions_of_segments : WalkScope → m.Segments → List Contribution
    contributions_of_segments sc m.no_segment = []
    contributions_of_segments sc (m.and_segment t ts ss) = contributions sc one_value t ++ contributions_of_all sc ts ++ contributions_of_segments sc ss

    pub contributions_of_steps : WalkScope → m.Steps → List Contribution
    contributions_of_steps sc m.no_step = []
    contributions_of_steps sc (m.and_let i xs u ss) =
        contributions sc (Exactly (length xs)) u
        ++ where_given (walk W sc (Exactly (length xs)) u) (λ us. contributions_of_steps (with_variables sc xs us) ss)
    contributions_of_steps sc (m.and_do i u ss) =
        contributions sc AnyNumber u ++ where_given (walk W sc AnyNumber u) (λ us. contributions_of_steps sc ss)

    -- a guard is walked where its patterns match, and a body where the whole head may hold
    pub contributions_of_clauses : WalkScope → Ask → List ℕ → m.Clauses → List Contribution
    contributions_of_clauses sc k qs m.no_clause = []
    contributions_of_clauses sc k qs (m.and_clause i ps g t cs) =
        where_solved (patterns_solved sc qs ps g) (λ solved. contributions (inside sc ps solved) one_value g)
        ++ where_solved (head_solved W sc qs ps g) (λ solved. contributions (inside sc ps solved) k t)
        ++ contributions_of_clauses sc k qs cs

    -- the functions that are entered, where they are defined
    pub contributions_of_functions : WalkScope → m.Defs → List Contribution
    contributions_of_functions sc m.no_def = []
    contributions_of_functions sc (m.and_def f i xs t ds) =
        where_entered (parameters_of W.state i.label)
        (λ ts. contributions (with_variables sc xs ts) one_value t ++ returns i.label (walk W (with_variables sc xs ts) one_value t))
        ++ contributions_of_functions sc ds
