-- So does what a walk gives to the state.
use Rattle.std.proofs.Common.{◌≡◌, ℕ, List, [], ◌∷◌, ◌++◌, length, refl, ap}
use Rattle.core_ast.specs.Model as m
use Rattle.core_ast.specs.Named.{local_name}
use Rattle.core_scope.specs.declared.ask.Ask.{Ask}
use Rattle.core_scope.specs.declared.ask.Ask.TheVariants.{AnyNumber, Exactly}
use Rattle.core_scope.specs.Asks.{one_value, width}
use Rattle.cons_gen_rows.specs.Counts.{call_names}
use Rattle.module_flow_calls.specs.TypeLists.{where_given}
use Rattle.module_flow_state.specs.Applications.{enters}
use Rattle.module_flow_state.specs.Scopes.{WalkScope, with_functions, with_variables}
use Rattle.module_flow_state.specs.States.{parameters_of, returns}
use Rattle.module_flow_state.specs.World.{World}
use Rattle.module_flow_walk.specs.Clauses.{patterns_solved, head_solved, inside}
use Rattle.module_flow_walk.specs.Walk.{seen_by_clauses, matched_slots, seen_by_messages, walk, walk_all, see_steps}
use Rattle.module_flow_walk.specs.Contributions.{where_limited, contributions, contributions_of_all, contributions_of_pairs, contributions_of_segments, contributions_of_steps, contributions_of_clauses, contributions_of_functions}
use Rattle.cons_gen_frame.proofs.Targets.{TreeAgrees, TreesAgree, PairsAgree, SegmentsAgree, StepsAgree, ClausesAgree, DefsAgree}
use Rattle.module_flow_frame.proofs.Going.{given_with, where_seen_with, solved_with, entered_with, listed_with, join}
use Rattle.module_flow_frame.proofs.Worlds.{TwoWalks, first_world, second_world}
use Rattle.module_flow_frame.proofs.Calls.{head_same}
use Rattle.module_flow_frame.proofs.Walks.{walk_same, walks_same, steps_same, steps_keep, seen_all}

module _ (z : TwoWalks) where
  abbrev V : World
  V = first_world z

  abbrev W : World
  W = second_world z

  mutual
    pub contributions_same : (t : m.Tree) (sc : WalkScope) → TreeAgrees z.first z.second z.home sc.functions t → (k : Ask) → contributions V sc k t ≡ contributions W sc k t
    contributions_same (m.variable i x) sc h k = refl
    contributions_same (m.local i f) sc h k = refl
    contributions_same (m.external i x f) sc h k = refl
    contributions_same (m.literal i l) sc h k = refl
    contributions_same (m.function i xs t) sc h k = contributions_same t (with_variables sc xs []) h one_value
    contributions_same (m.listed i ts t) sc h k =
        join (all_contributions ts sc h.0) (contributions_same t sc h.1 one_value)
    contributions_same (m.tuple i ts) sc h k = all_contributions ts sc h
    contributions_same (m.new_map i ps) sc h k = pair_contributions ps sc h
    contributions_same (m.updated_map i ps t) sc h k =
        join (pair_contributions ps sc h.0) (contributions_same t sc h.1 one_value)
    contributions_same (m.binary i ss) sc h k = segment_contributions ss sc h
    contributions_same (m.values i ts) sc h k = all_contributions ts sc h
    contributions_same (m.chain i ss t) sc h k =
        join (step_contributions ss sc h.0)
        (where_seen_with V W (λ U. see_steps U sc ss) (λ U s. contributions U s k t) (steps_same z ss sc h.0)
        (λ s e. contributions_same t s (seen_all z sc s t (steps_keep z sc ss s e) h.1) k))
    contributions_same (m.case i t cs) sc h k =
        join (contributions_same t sc h.0 (Exactly (width cs)))
        (given_with V W (λ U. walk U sc (Exactly (width cs)) t) (λ U ts. contributions_of_clauses U (seen_by_clauses sc cs ts) k (matched_slots sc t cs) cs)
        (walk_same z t sc h.0 (Exactly (width cs)))
        (λ ts e. clause_contributions cs (seen_by_clauses sc cs ts) h.1 k (matched_slots sc t cs)))
    contributions_same (m.letrec i ds t) sc h k =
        join (def_contributions ds (with_functions sc ds) h.0)
        (contributions_same t (with_functions sc ds) h.1 k)
    contributions_same (m.apply i t ts) sc h k =
        listed_with V W (local_name t) (λ U f. contributions_of_all U sc ts ++ where_given (walk_all U sc ts) (λ us. enters U sc f us)) (λ U. contributions U sc one_value t ++ contributions_of_all U sc ts)
        (λ f e. join (all_contributions ts sc h.2) (ap (λ g. where_given g (λ us. enters W sc f us)) (walks_same z ts sc h.2)))
        (join (contributions_same t sc h.1 one_value) (all_contributions ts sc h.2))
    contributions_same (m.call i t u ts) sc h k =
        listed_with V W (call_names t u) (λ U names. contributions_of_all U sc ts) (λ U. contributions U sc one_value t ++ contributions U sc one_value u ++ contributions_of_all U sc ts)
        (λ x e. all_contributions ts sc h.3)
        (join (join (contributions_same t sc h.1 one_value) (contributions_same u sc h.2 one_value)) (all_contributions ts sc h.3))
    contributions_same (m.primop i x ts) sc h k = all_contributions ts sc h
    contributions_same (m.try i t xs u ys w) sc h k =
        join (join (contributions_same t sc h.0 (Exactly (length xs)))
        (given_with V W (λ U. walk U sc (Exactly (length xs)) t) (λ U ts. contributions U (with_variables sc xs ts) k u)
        (walk_same z t sc h.0 (Exactly (length xs)))
        (λ ts e. contributions_same u (with_variables sc xs ts) h.1 k)))
        (contributions_same w (with_variables sc ys []) h.2 k)
    contributions_same (m.receive i cs t u) sc h k =
        join (contributions_same t sc h.1 one_value)
        (given_with V W (λ U. walk U sc one_value t) (λ U limit. contributions_of_clauses U (seen_by_messages sc) k (length sc.types ∷ []) cs ++ where_limited limit (contributions U sc k u))
        (walk_same z t sc h.1 one_value)
        (λ limit e. join (clause_contributions cs (seen_by_messages sc) h.0 k (length sc.types ∷ []))
        (ap (where_limited limit) (contributions_same u sc h.2 k))))
    contributions_same (m.catch i t) sc h k = contributions_same t sc h one_value

    pub all_contributions : (ts : m.Trees) (sc : WalkScope) → TreesAgree z.first z.second z.home sc.functions ts → contributions_of_all V sc ts ≡ contributions_of_all W sc ts
    all_contributions m.no_tree sc h = refl
    all_contributions (m.and_tree t ts) sc h = join (contributions_same t sc h.0 one_value) (all_contributions ts sc h.1)

    pub pair_contributions : (ps : m.Pairs) (sc : WalkScope) → PairsAgree z.first z.second z.home sc.functions ps → contributions_of_pairs V sc ps ≡ contributions_of_pairs W sc ps
    pair_contributions m.no_pair sc h = refl
    pair_contributions (m.and_pair exact t u ps) sc h =
        join (join (contributions_same t sc h.0 one_value)
        (contributions_same u sc h.1 one_value))
        (pair_contributions ps sc h.2)

    pub segment_contributions : (ss : m.Segments) (sc : WalkScope) → SegmentsAgree z.first z.second z.home sc.functions ss → contributions_of_segments V sc ss ≡ contributions_of_segments W sc ss
    segment_contributions m.no_segment sc h = refl
    segment_contributions (m.and_segment t ts ss) sc h =
        join (join (contributions_same t sc h.0 one_value)
        (all_contributions ts sc h.1))
        (segment_contributions ss sc h.2)

    pub step_contributions : (ss : m.Steps) (sc : WalkScope) → StepsAgree z.first z.second z.home sc.functions ss → contributions_of_steps V sc ss ≡ contributions_of_steps W sc ss
    step_contributions m.no_step sc h = refl
    step_contributions (m.and_let i xs u ss) sc h =
        join (contributions_same u sc h.0 (Exactly (length xs)))
        (given_with V W (λ U. walk U sc (Exactly (length xs)) u) (λ U us. contributions_of_steps U (with_variables sc xs us) ss)
        (walk_same z u sc h.0 (Exactly (length xs)))
        (λ us e. step_contributions ss (with_variables sc xs us) h.1))
    step_contributions (m.and_do i u ss) sc h =
        join (contributions_same u sc h.0 AnyNumber)
        (given_with V W (λ U. walk U sc AnyNumber u) (λ U us. contributions_of_steps U sc ss)
        (walk_same z u sc h.0 AnyNumber)
        (λ us e. step_contributions ss sc h.1))

    pub clause_contributions : (cs : m.Clauses) (sc : WalkScope) → ClausesAgree z.first z.second z.home sc.functions cs → (k : Ask) (qs : List ℕ) → contributions_of_clauses V sc k qs cs ≡ contributions_of_clauses W sc k qs cs
    clause_contributions m.no_clause sc h k qs = refl
    clause_contributions (m.and_clause i ps g t cs) sc h k qs =
        join (join (solved_with V W (λ U. patterns_solved sc qs ps g) (λ U solved. contributions U (inside sc ps solved) one_value g) refl
        (λ solved. contributions_same g (inside sc ps solved) h.1 one_value))
        (solved_with V W (λ U. head_solved U sc qs ps g) (λ U solved. contributions U (inside sc ps solved) k t) (head_same z sc qs ps g h.1)
        (λ solved. contributions_same t (inside sc ps solved) h.2 k)))
        (clause_contributions cs sc h.3 k qs)

    pub def_contributions : (ds : m.Defs) (sc : WalkScope) → DefsAgree z.first z.second z.home sc.functions ds → contributions_of_functions V sc ds ≡ contributions_of_functions W sc ds
    def_contributions m.no_def sc h = refl
    def_contributions (m.and_def f i xs t ds) sc h =
        join (entered_with V W (parameters_of z.state i.label) (λ U ts. contributions U (with_variables sc xs ts) one_value t ++ returns i.label (walk U (with_variables sc xs ts) one_value t))
        (λ ts. join (contributions_same t (with_variables sc xs ts) h.0 one_value)
        (ap (returns i.label) (walk_same z t (with_variables sc xs ts) h.0 one_value))))
        (def_contributions ds sc h.1)
