-- What a walk gives rests on what is known of the functions that the text calls.
use Rattle.std.proofs.Common.{◌≡◌, ℕ, suc, ◌+◌, false, List, [], ◌∷◌, length, refl, sym, ap, ap₂, subst, arith}
use Rattle.std.specs.Prelude.{Some, None}
use Rattle.core_ast.specs.Model as m
use Rattle.core_ast.specs.Lengths.{how_many}
use Rattle.core_ast.specs.Named.{literal_atom, local_name}
use Rattle.core_scope.specs.declared.ask.Ask.{Ask}
use Rattle.core_scope.specs.declared.ask.Ask.TheVariants.{AnyNumber, Exactly}
use Rattle.core_scope.specs.Asks.{one_value, width}
use Rattle.type_lattice.specs.Types.{Type4, any, tuple}
use Rattle.type_lattice.specs.Kinds.{of_kind}
use Rattle.type_lattice.specs.declared.kinds.Kind.TheVariants.{Bitstring, Map}
use Rattle.cons_tree.specs.Named.{naturals}
use Rattle.cons_gen_rows.specs.Counts.{call_names}
use Rattle.cons_gen_rows.specs.Words.{function_type}
use Rattle.module_flow_calls.specs.TypeLists.{Given, either, first, list_type, value}
use Rattle.module_flow_calls.specs.Calls.{called}
use Rattle.module_flow_state.specs.Applications.{applied, where_meets}
use Rattle.module_flow_state.specs.Scopes.{WalkScope, with_functions, with_variables}
use Rattle.module_flow_state.specs.World.{World, strict}
use Rattle.module_flow_walk.specs.Clauses.{head_solved, inside}
use Rattle.module_flow_walk.specs.Walk.{then as and_then, see_given, passed, by_primop, seen_by_clauses, matched_slots, seen_by_messages, walk, walk_all, walk_pairs, walk_segments, see_steps, walk_clauses}
use Rattle.cons_gen_frame.proofs.Targets.{TreeAgrees, TreesAgree, PairsAgree, SegmentsAgree, StepsAgree, ClausesAgree, call_target}
use Rattle.module_flow_frame.proofs.Going.{then_with, seen_with, see_with, inside_with, named_with}
use Rattle.module_flow_frame.proofs.Worlds.{TwoWalks, first_world, second_world}
use Rattle.module_flow_frame.proofs.Calls.{called_same, applied_same, head_same}

module _ (z : TwoWalks) where
  abbrev V : World
  V = first_world z

  abbrev W : World
  W = second_world z

  -- as many types as expressions
  pub all_long : (sc : WalkScope) (ts : m.Trees) (us : List Type4) → walk_all W sc ts ≡ Some us → length us ≡ how_many ts
  all_long sc m.no_tree us e = let same : [] ≡ us = cc in ap length (sym same)
  all_long sc (m.and_tree t ts) us e = by (walk W sc one_value t) (walk_all W sc ts) refl e (all_long sc ts)
    where
      by : (g r : Given) → walk_all W sc ts ≡ r → and_then g (λ vs. and_then r (λ more. Some (first vs ∷ more))) ≡ Some us
          → ((ws : List Type4) → walk_all W sc ts ≡ Some ws → length ws ≡ how_many ts) → length us ≡ how_many ts + 1
      by None r is e rest = absurd cc
      by (Some vs) None is e rest = absurd cc
      by (Some vs) (Some ws) is e rest =
          let same : first vs ∷ ws ≡ us = some_is e in
          let one_more : suc (length ws) ≡ length us = ap length same in
          omega (arith, sym one_more, rest ws is)
        where
          some_is : Some (first vs ∷ ws) ≡ Some us → first vs ∷ ws ≡ us
          some_is e = cc

  pub steps_keep : (sc : WalkScope) (ss : m.Steps) (s : WalkScope) → see_steps W sc ss ≡ Some s → s.functions ≡ sc.functions
  steps_keep sc m.no_step s e = let same : sc ≡ s = cc in ap (λ (x : WalkScope). x.functions) (sym same)
  steps_keep sc (m.and_let i xs u ss) s e = by (walk W sc (Exactly (length xs)) u) e (λ us. steps_keep (with_variables sc xs us) ss s)
    where
      by : (g : Given) → see_given g (λ us. see_steps W (with_variables sc xs us) ss) ≡ Some s
          → ((us : List Type4) → see_steps W (with_variables sc xs us) ss ≡ Some s → s.functions ≡ sc.functions) → s.functions ≡ sc.functions
      by None e rest = absurd cc
      by (Some us) e rest = rest us e
  steps_keep sc (m.and_do i u ss) s e = by (walk W sc AnyNumber u) e (λ us. steps_keep sc ss s)
    where
      by : (g : Given) → see_given g (λ us. see_steps W sc ss) ≡ Some s → ((us : List Type4) → see_steps W sc ss ≡ Some s → s.functions ≡ sc.functions) → s.functions ≡ sc.functions
      by None e rest = absurd cc
      by (Some us) e rest = rest us e

  pub seen_all : (sc s : WalkScope) (t : m.Tree) → s.functions ≡ sc.functions → TreeAgrees z.first z.second z.home sc.functions t → TreeAgrees z.first z.second z.home s.functions t
  seen_all sc s t e h = subst (λ fs. TreeAgrees z.first z.second z.home fs t) (sym e) h

  mutual
    pub walk_same : (t : m.Tree) (sc : WalkScope) → TreeAgrees z.first z.second z.home sc.functions t → (k : Ask) → walk V sc k t ≡ walk W sc k t
    walk_same (m.variable i x) sc h k = refl
    walk_same (m.local i f) sc h k = refl
    walk_same (m.external i x f) sc h k = refl
    walk_same (m.literal i l) sc h k = refl
    walk_same (m.function i xs t) sc h k = refl
    walk_same (m.listed i ts t) sc h k =
        ap₂ (λ a b. and_then a (λ hs. and_then b (λ us. value (list_type hs (first us)))))
        (walks_same ts sc h.0) (walk_same t sc h.1 one_value)
    walk_same (m.tuple i ts) sc h k = ap (λ a. and_then a (λ us. value (tuple us))) (walks_same ts sc h)
    walk_same (m.new_map i ps) sc h k = ap (λ a. and_then a (λ us. value (of_kind Map))) (pairs_same ps sc h)
    walk_same (m.updated_map i ps t) sc h k =
        ap₂ (λ a b. and_then a (λ us. and_then b (λ old. where_meets (first old) (of_kind Map) (value (of_kind Map)))))
        (pairs_same ps sc h.0) (walk_same t sc h.1 one_value)
    walk_same (m.binary i ss) sc h k = ap (λ a. and_then a (λ us. value (of_kind Bitstring))) (segments_same ss sc h)
    walk_same (m.values i ts) sc h k = ap (passed k) (walks_same ts sc h)
    walk_same (m.chain i ss t) sc h k =
        seen_with V W (λ U. see_steps U sc ss) (λ U s. passed k (walk U s k t)) (steps_same ss sc h.0)
        (λ s e. ap (passed k) (walk_same t s (seen_all sc s t (steps_keep sc ss s e) h.1) k))
    walk_same (m.case i t cs) sc h k =
        then_with V W (λ U. walk U sc (Exactly (width cs)) t) (λ U ts. walk_clauses U (seen_by_clauses sc cs ts) k (matched_slots sc t cs) cs)
        (walk_same t sc h.0 (Exactly (width cs)))
        (λ ts e. clauses_same cs (seen_by_clauses sc cs ts) h.1 k (matched_slots sc t cs))
    walk_same (m.letrec i ds t) sc h k =
        ap (passed k) (walk_same t (with_functions sc ds) h.1 k)
    walk_same (m.apply i t ts) sc h k =
        named_with V W (local_name t)
        (λ U f. and_then (walk_all U sc ts) (λ us. applied U sc f us))
        (λ U. and_then (walk U sc one_value t) (λ operator. and_then (walk_all U sc ts) (λ us. where_meets (first operator) (function_type (length us)) (value any))))
        (λ f e. then_with V W (λ U. walk_all U sc ts) (λ U us. applied U sc f us) (walks_same ts sc h.2) (λ us is. applied_same z sc f us))
        (ap₂ (λ a b. and_then a (λ operator. and_then b (λ us. where_meets (first operator) (function_type (length us)) (value any)))) (walk_same t sc h.1 one_value) (walks_same ts sc h.2))
    walk_same (m.call i t u ts) sc h k =
        named_with V W (call_names t u)
        (λ U names. and_then (walk_all U sc ts) (λ us. called (strict U) names.0 names.1 us))
        (λ U. and_then (walk U sc one_value t) (λ home. and_then (walk U sc one_value u) (λ name. and_then (walk_all U sc ts) (λ us. value any))))
        (λ x e. then_with V W (λ U. walk_all U sc ts) (λ U us. called (strict U) x.0 x.1 us) (walks_same ts sc h.3)
        (λ us is. called_same z false x.0 x.1 (how_many ts) us (all_long sc ts us is) (call_target z.first z.second z.home (how_many ts) (literal_atom t) (literal_atom u) h.0 x e)))
        (ap₂ (λ a f. and_then a f) (walk_same t sc h.1 one_value)
        (ap₂ (λ b e. λ home. and_then b (λ name. and_then e (λ us. value any))) (walk_same u sc h.2 one_value) (walks_same ts sc h.3)))
    walk_same (m.primop i x ts) sc h k = ap (λ a. and_then a (λ us. by_primop k x)) (walks_same ts sc h)
    walk_same (m.try i t xs u ys w) sc h k =
        ap₂ either
        (then_with V W (λ U. walk U sc (Exactly (length xs)) t) (λ U ts. passed k (walk U (with_variables sc xs ts) k u))
        (walk_same t sc h.0 (Exactly (length xs)))
        (λ ts e. ap (passed k) (walk_same u (with_variables sc xs ts) h.1 k)))
        (ap (passed k) (walk_same w (with_variables sc ys []) h.2 k))
    walk_same (m.receive i cs t u) sc h k =
        then_with V W (λ U. walk U sc one_value t) (λ U limit. either (walk_clauses U (seen_by_messages sc) k (length sc.types ∷ []) cs) (where_meets (first limit) naturals (passed k (walk U sc k u))))
        (walk_same t sc h.1 one_value)
        (λ limit e. ap₂ (λ a b. either a (where_meets (first limit) naturals (passed k b)))
        (clauses_same cs (seen_by_messages sc) h.0 k (length sc.types ∷ []))
        (walk_same u sc h.2 k))
    walk_same (m.catch i t) sc h k = refl

    pub walks_same : (ts : m.Trees) (sc : WalkScope) → TreesAgree z.first z.second z.home sc.functions ts → walk_all V sc ts ≡ walk_all W sc ts
    walks_same m.no_tree sc h = refl
    walks_same (m.and_tree t ts) sc h =
        ap₂ (λ a b. and_then a (λ us. and_then b (λ more. Some (first us ∷ more)))) (walk_same t sc h.0 one_value) (walks_same ts sc h.1)

    pub pairs_same : (ps : m.Pairs) (sc : WalkScope) → PairsAgree z.first z.second z.home sc.functions ps → walk_pairs V sc ps ≡ walk_pairs W sc ps
    pairs_same m.no_pair sc h = refl
    pairs_same (m.and_pair exact t u ps) sc h =
        ap₂ (λ a f. and_then a f) (walk_same t sc h.0 one_value)
        (ap₂ (λ b e. λ key. and_then b (λ held. e)) (walk_same u sc h.1 one_value)
        (pairs_same ps sc h.2))

    pub segments_same : (ss : m.Segments) (sc : WalkScope) → SegmentsAgree z.first z.second z.home sc.functions ss → walk_segments V sc ss ≡ walk_segments W sc ss
    segments_same m.no_segment sc h = refl
    segments_same (m.and_segment t ts ss) sc h =
        ap₂ (λ a f. and_then a f) (walk_same t sc h.0 one_value)
        (ap₂ (λ b e. λ us. and_then b (λ args. e)) (walks_same ts sc h.1)
        (segments_same ss sc h.2))

    pub steps_same : (ss : m.Steps) (sc : WalkScope) → StepsAgree z.first z.second z.home sc.functions ss → see_steps V sc ss ≡ see_steps W sc ss
    steps_same m.no_step sc h = refl
    steps_same (m.and_let i xs u ss) sc h =
        see_with V W (λ U. walk U sc (Exactly (length xs)) u) (λ U us. see_steps U (with_variables sc xs us) ss)
        (walk_same u sc h.0 (Exactly (length xs)))
        (λ us. steps_same ss (with_variables sc xs us) h.1)
    steps_same (m.and_do i u ss) sc h =
        see_with V W (λ U. walk U sc AnyNumber u) (λ U us. see_steps U sc ss)
        (walk_same u sc h.0 AnyNumber)
        (λ us. steps_same ss sc h.1)

    pub clauses_same : (cs : m.Clauses) (sc : WalkScope) → ClausesAgree z.first z.second z.home sc.functions cs → (k : Ask) (qs : List ℕ) → walk_clauses V sc k qs cs ≡ walk_clauses W sc k qs cs
    clauses_same m.no_clause sc h k qs = refl
    clauses_same (m.and_clause i ps g t cs) sc h k qs =
        ap₂ either
        (inside_with V W (λ U. head_solved U sc qs ps g) (λ U solved. passed k (walk U (inside sc ps solved) k t))
        (head_same z sc qs ps g h.1)
        (λ solved. ap (passed k) (walk_same t (inside sc ps solved) h.2 k)))
        (clauses_same cs sc h.3 k qs)
