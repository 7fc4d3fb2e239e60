-- And so does what is found: in a walk, and of the functions themselves.
use Rattle.std.proofs.Common.{◌≡◌, ℕ, true, cond, List, [], ◌∷◌, ◌++◌, length, refl, ap, ap₂, Contains}
use Rattle.core_ast.specs.declared.syntax.FunName.{FunName}
use Rattle.core_ast.specs.Model as m
use Rattle.core_ast.specs.Lengths.{how_many}
use Rattle.core_ast.specs.Named.{literal_atom, local_name}
use Rattle.core_scope.specs.declared.ask.Ask.{Ask}
use Rattle.core_scope.specs.declared.ask.Ask.TheVariants.{AnyNumber, Exactly}
use Rattle.core_scope.specs.Asks.{one_value, function_name, width}
use Rattle.core_scope.specs.Names.{defined_names}
use Rattle.cons_gen_rows.specs.Counts.{call_names}
use Rattle.warn_list.specs.declared.finding.FindingKind.TheVariants.{DeadCall, DeadClause, NoReturn, NeverCalled}
use Rattle.warn_list.specs.declared.finding.CallText.TheVariants as text
use Rattle.module_flow_calls.specs.declared.node_context.NodeContext.{NodeContext}
use Rattle.module_flow_calls.specs.NodeContext.{under, under_steps, at_node}
use Rattle.module_flow_calls.specs.TypeLists.{first, where_given}
use Rattle.module_flow_calls.specs.Calls.{called}
use Rattle.module_flow_state.specs.Applications.{may_apply, unless_given, unless_function}
use Rattle.module_flow_state.specs.Scopes.{WalkScope, with_functions, with_variables}
use Rattle.module_flow_state.specs.States.{parameters_of}
use Rattle.module_flow_state.specs.World.{World, lenient}
use Rattle.module_flow_walk.specs.Clauses.{head_solved, inside}
use Rattle.module_flow_walk.specs.Walk.{seen_by_clauses, matched_slots, seen_by_messages, walk, walk_all, see_steps}
use Rattle.module_flow_walk.specs.Contributions.{where_limited}
use Rattle.module_flow_walk.specs.Findings.{found, found_in_all, found_in_pairs, found_in_segments, found_in_steps, found_in_clauses, found_in_functions}
use Rattle.module_flow.specs.Flow.{gives_nothing, unless_entered, functions_reported}
use Rattle.cons_gen_frame.proofs.Targets.{TreeAgrees, TreesAgree, PairsAgree, SegmentsAgree, StepsAgree, ClausesAgree, DefsAgree, call_target}
use Rattle.module_flow_frame.proofs.Going.{given_with, where_seen_with, entered_with, listed_with, found_with, join}
use Rattle.module_flow_frame.proofs.Worlds.{TwoWalks, first_world, second_world}
use Rattle.type_kinds.proofs.Lists.{contains_first, contains_later}
use Rattle.module_flow_frame.proofs.Calls.{called_same, may_apply_same, head_same}
use Rattle.module_flow_frame.proofs.Walks.{walk_same, walks_same, steps_same, all_long, steps_keep, seen_all}

module _ (z : TwoWalks) where
  abbrev V : World
  V = first_world z

  abbrev W : World
  W = second_world z

  mutual
    pub found_same : (t : m.Tree) (sc : WalkScope) → TreeAgrees z.first z.second z.home sc.functions t → (a : NodeContext) (k : Ask) → found V a sc k t ≡ found W a sc k t
    found_same (m.variable i x) sc h a k = refl
    found_same (m.local i f) sc h a k = refl
    found_same (m.external i x f) sc h a k = refl
    found_same (m.literal i l) sc h a k = refl
    found_same (m.function i xs t) sc h a k = found_same t (with_variables sc xs []) h (under a i.note) one_value
    found_same (m.listed i ts t) sc h a k =
        join (all_found ts sc h.0 (under a i.note)) (found_same t sc h.1 (under a i.note) one_value)
    found_same (m.tuple i ts) sc h a k = all_found ts sc h (under a i.note)
    found_same (m.new_map i ps) sc h a k = pair_found ps sc h (under a i.note)
    found_same (m.updated_map i ps t) sc h a k =
        join (pair_found ps sc h.0 (under a i.note)) (found_same t sc h.1 (under a i.note) one_value)
    found_same (m.binary i ss) sc h a k = segment_found ss sc h (under a i.note)
    found_same (m.values i ts) sc h a k = all_found ts sc h (under a i.note)
    found_same (m.chain i ss t) sc h a k =
        join (step_found ss sc h.0 (under a i.note))
        (where_seen_with V W (λ U. see_steps U sc ss) (λ U s. found U (under_steps (under a i.note) ss) s k t) (steps_same z ss sc h.0)
        (λ s e. found_same t s (seen_all z sc s t (steps_keep z sc ss s e) h.1) (under_steps (under a i.note) ss) k))
    found_same (m.case i t cs) sc h a k =
        join (found_same t sc h.0 (under a i.note) (Exactly (width cs)))
        (given_with V W (λ U. walk U sc (Exactly (width cs)) t) (λ U ts. found_in_clauses U (under a i.note) (seen_by_clauses sc cs ts) k (matched_slots sc t cs) cs)
        (walk_same z t sc h.0 (Exactly (width cs)))
        (λ ts e. clause_found cs (seen_by_clauses sc cs ts) h.1 (under a i.note) k (matched_slots sc t cs)))
    found_same (m.letrec i ds t) sc h a k =
        join (def_found ds (with_functions sc ds) h.0 (under a i.note))
        (found_same t (with_functions sc ds) h.1 (under a i.note) k)
    found_same (m.apply i t ts) sc h a k =
        listed_with V W (local_name t)
        (λ U f. found_in_all U (under a i.note) sc ts ++ where_given (walk_all U sc ts) (λ us. unless_given (may_apply U sc f us) (at_node (under a i.note) i (DeadCall (text.Local f)))))
        (λ U. found U (under a i.note) sc one_value t ++ found_in_all U (under a i.note) sc ts
        ++ where_given (walk U sc one_value t) (λ operator. where_given (walk_all U sc ts) (λ us. unless_function (first operator) (length us) (at_node (under a i.note) i (DeadCall (text.Value (length us)))))))
        (λ f e. join (all_found ts sc h.2 (under a i.note))
        (given_with V W (λ U. walk_all U sc ts) (λ U us. unless_given (may_apply U sc f us) (at_node (under a i.note) i (DeadCall (text.Local f))))
        (walks_same z ts sc h.2) (λ us is. ap (λ g. unless_given g (at_node (under a i.note) i (DeadCall (text.Local f)))) (may_apply_same z sc f us))))
        (join (join (found_same t sc h.1 (under a i.note) one_value) (all_found ts sc h.2 (under a i.note)))
        (ap₂ (λ x y. where_given x (λ operator. where_given y (λ us. unless_function (first operator) (length us) (at_node (under a i.note) i (DeadCall (text.Value (length us)))))))
        (walk_same z t sc h.1 one_value) (walks_same z ts sc h.2)))
    found_same (m.call i t u ts) sc h a k =
        listed_with V W (call_names t u)
        (λ U names. found_in_all U (under a i.note) sc ts
        ++ where_given (walk_all U sc ts) (λ us. unless_given (called (lenient U) names.0 names.1 us) (at_node (under a i.note) i (DeadCall (text.Remote names.0 (function_name names.1 (length us)))))))
        (λ U. found U (under a i.note) sc one_value t ++ found U (under a i.note) sc one_value u ++ found_in_all U (under a i.note) sc ts)
        (λ x e. join (all_found ts sc h.3 (under a i.note))
        (given_with V W (λ U. walk_all U sc ts) (λ U us. unless_given (called (lenient U) x.0 x.1 us) (at_node (under a i.note) i (DeadCall (text.Remote x.0 (function_name x.1 (length us))))))
        (walks_same z ts sc h.3)
        (λ us is. ap (λ g. unless_given g (at_node (under a i.note) i (DeadCall (text.Remote x.0 (function_name x.1 (length us))))))
        (called_same z true x.0 x.1 (how_many ts) us (all_long z sc ts us is) (call_target z.first z.second z.home (how_many ts) (literal_atom t) (literal_atom u) h.0 x e)))))
        (join (join (found_same t sc h.1 (under a i.note) one_value) (found_same u sc h.2 (under a i.note) one_value)) (all_found ts sc h.3 (under a i.note)))
    found_same (m.primop i x ts) sc h a k = all_found ts sc h (under a i.note)
    found_same (m.try i t xs u ys w) sc h a k =
        join (join (found_same t sc h.0 (under a i.note) (Exactly (length xs)))
        (given_with V W (λ U. walk U sc (Exactly (length xs)) t) (λ U ts. found U (under a i.note) (with_variables sc xs ts) k u)
        (walk_same z t sc h.0 (Exactly (length xs)))
        (λ ts e. found_same u (with_variables sc xs ts) h.1 (under a i.note) k)))
        (found_same w (with_variables sc ys []) h.2 (under a i.note) k)
    found_same (m.receive i cs t u) sc h a k =
        join (found_same t sc h.1 (under a i.note) one_value)
        (given_with V W (λ U. walk U sc one_value t) (λ U limit. found_in_clauses U (under a i.note) (seen_by_messages sc) k (length sc.types ∷ []) cs ++ where_limited limit (found U (under a i.note) sc k u))
        (walk_same z t sc h.1 one_value)
        (λ limit e. join (clause_found cs (seen_by_messages sc) h.0 (under a i.note) k (length sc.types ∷ []))
        (ap (where_limited limit) (found_same u sc h.2 (under a i.note) k))))
    found_same (m.catch i t) sc h a k = found_same t sc h (under a i.note) one_value

    pub all_found : (ts : m.Trees) (sc : WalkScope) → TreesAgree z.first z.second z.home sc.functions ts → (a : NodeContext) → found_in_all V a sc ts ≡ found_in_all W a sc ts
    all_found m.no_tree sc h a = refl
    all_found (m.and_tree t ts) sc h a = join (found_same t sc h.0 a one_value) (all_found ts sc h.1 a)

    pub pair_found : (ps : m.Pairs) (sc : WalkScope) → PairsAgree z.first z.second z.home sc.functions ps → (a : NodeContext) → found_in_pairs V a sc ps ≡ found_in_pairs W a sc ps
    pair_found m.no_pair sc h a = refl
    pair_found (m.and_pair exact t u ps) sc h a =
        join (join (found_same t sc h.0 a one_value)
        (found_same u sc h.1 a one_value))
        (pair_found ps sc h.2 a)

    pub segment_found : (ss : m.Segments) (sc : WalkScope) → SegmentsAgree z.first z.second z.home sc.functions ss → (a : NodeContext) → found_in_segments V a sc ss ≡ found_in_segments W a sc ss
    segment_found m.no_segment sc h a = refl
    segment_found (m.and_segment t ts ss) sc h a =
        join (join (found_same t sc h.0 a one_value)
        (all_found ts sc h.1 a))
        (segment_found ss sc h.2 a)

    pub step_found : (ss : m.Steps) (sc : WalkScope) → StepsAgree z.first z.second z.home sc.functions ss → (a : NodeContext) → found_in_steps V a sc ss ≡ found_in_steps W a sc ss
    step_found m.no_step sc h a = refl
    step_found (m.and_let i xs u ss) sc h a =
        join (found_same u sc h.0 (under a i.note) (Exactly (length xs)))
        (given_with V W (λ U. walk U sc (Exactly (length xs)) u) (λ U us. found_in_steps U (under a i.note) (with_variables sc xs us) ss)
        (walk_same z u sc h.0 (Exactly (length xs)))
        (λ us e. step_found ss (with_variables sc xs us) h.1 (under a i.note)))
    step_found (m.and_do i u ss) sc h a =
        join (found_same u sc h.0 (under a i.note) AnyNumber)
        (given_with V W (λ U. walk U sc AnyNumber u) (λ U us. found_in_steps U (under a i.note) sc ss)
        (walk_same z u sc h.0 AnyNumber)
        (λ us e. step_found ss sc h.1 (under a i.note)))

    pub clause_found : (cs : m.Clauses) (sc : WalkScope) → ClausesAgree z.first z.second z.home sc.functions cs → (a : NodeContext) (k : Ask) (qs : List ℕ)
        → found_in_clauses V a sc k qs cs ≡ found_in_clauses W a sc k qs cs
    clause_found m.no_clause sc h a k qs = refl
    clause_found (m.and_clause i ps g t cs) sc h a k qs =
        join (found_with V W (λ U. head_solved U sc qs ps g) (at_node (under a i.note) i DeadClause) (λ U solved. found U (under a i.note) (inside sc ps solved) k t)
        (head_same z sc qs ps g h.1) (λ solved. found_same t (inside sc ps solved) h.2 (under a i.note) k))
        (clause_found cs sc h.3 a k qs)

    pub def_found : (ds : m.Defs) (sc : WalkScope) → DefsAgree z.first z.second z.home sc.functions ds → (a : NodeContext) → found_in_functions V a sc ds ≡ found_in_functions W a sc ds
    def_found m.no_def sc h a = refl
    def_found (m.and_def f i xs t ds) sc h a =
        join (entered_with V W (parameters_of z.state i.label) (λ U ts. found U (under a i.note) (with_variables sc xs ts) one_value t)
        (λ ts. found_same t (with_variables sc xs ts) h.0 (under a i.note) one_value))
        (def_found ds sc h.1 a)

  -- ---- what is reported of the functions themselves

  pub reported_same : (a : NodeContext) (ds : m.Defs) → ((f : FunName) → Contains (defined_names ds) f → z.first z.home f ≡ z.second z.home f) → functions_reported V a ds ≡ functions_reported W a ds
  reported_same a m.no_def own = refl
  reported_same a (m.and_def f i xs t ds) own =
      ap₂ (λ x y. cond (gives_nothing x) (at_node (under a i.note) i (NoReturn f)) [] ++ unless_entered (parameters_of z.state i.label) (at_node (under a i.note) i (NeverCalled f)) ++ y)
      (own f (contains_first f (defined_names ds))) (reported_same a ds (λ g there. own g (contains_later f g (defined_names ds) there)))
