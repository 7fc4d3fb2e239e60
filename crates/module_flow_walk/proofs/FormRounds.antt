-- The loops over expressions, pairs and segments: what each round keeps.
use Rattle.std.proofs.Common.{◌≡◌, ℕ, ◌+◌, ◌<◌, Bool, ◌&&◌, List, ◌++◌, length, drop, get_or, is_some, sym, ap, ◌∙◌}
use Rattle.core_ast.specs.declared.syntax.Expr.{Expr}
use Rattle.core_ast.specs.declared.syntax.MapPair.{MapPair}
use Rattle.core_ast.specs.declared.syntax.Segment.{Segment, out-Segment}
use Rattle.core_ast.specs.Model as m
use Rattle.core_ast.specs.Tree.{tree, all_trees, all_pairs, all_segments, pair_parts, segment_parts}
use Rattle.core_ast.proofs.Items.{all_pairs-next, all_segments-next}
use Rattle.core_ast.proofs.Trees.{pair-is, segment-is}
use Rattle.core_scope.specs.Asks.{one_value}
use Rattle.module_flow_calls.specs.declared.node_context.NodeContext.{NodeContext}
use Rattle.module_flow_state.specs.declared.walk.FlowWalk.{FlowWalk}
use Rattle.module_flow_calls.specs.TypeLists.{Given}
use Rattle.module_flow_walk.specs.Findings.{found, found_in_all, found_in_pairs, found_in_segments}
use Rattle.module_flow_walk.specs.Contributions.{contributions, contributions_of_all, contributions_of_pairs, contributions_of_segments}
use Rattle.module_flow_walk.specs.Walk.{walk, walk_all, walk_pairs, walk_segments}
use Rattle.module_flow_state.specs.World.{World}
use Rattle.module_flow_state.specs.steps.Walking.{noting, walk_scope_of}
use Rattle.module_flow_walk.proofs.FormExits.{NotesAll, NotesOne, pair_notes, segment_notes}
use Rattle.module_flow_walk.proofs.Givens.{both_round}
use Rattle.module_flow_state.proofs.Notes.{notes_round}

-- ---- the next item

pub next_pair : (ps : List MapPair) (i : ℕ) (p : MapPair) → i < length ps → p ≡ get_or ps i p → all_pairs (drop i ps) ≡ m.and_pair p.exact (tree p.key) (tree p.value) (all_pairs (drop (i + 1) ps))
next_pair ps i p within is =
    let rest : m.Pairs = all_pairs (drop (i + 1) ps) in
    all_pairs-next ps i p within ∙ ap (λ x. let y = pair_parts x in m.and_pair y.exact y.key y.value rest) (sym is) ∙ ap (λ y. m.and_pair y.exact y.key y.value rest) (pair-is p)

pub next_segment : (ss : List Segment) (i : ℕ) (x : Segment) (args : List Expr) → i < length ss → x ≡ get_or ss i x → args ≡ (out-Segment x).args
    → all_segments (drop i ss) ≡ m.and_segment (tree (out-Segment x).value) (all_trees args) (all_segments (drop (i + 1) ss))
next_segment ss i x args within is args_are =
    let rest : m.Segments = all_segments (drop (i + 1) ss) in
    all_segments-next ss i x within ∙ ap (λ z. let y = segment_parts z in m.and_segment y.value y.args rest) (sym is) ∙ ap (λ y. m.and_segment y.value y.args rest) (segment-is x)
    ∙ ap (λ es. m.and_segment (tree (out-Segment x).value) (all_trees es) rest) (sym args_are)

-- ---- rounds

module _ (W : World) (a : NodeContext) (w w1 : FlowWalk) where
  module _ (w2 : FlowWalk) where
    pub pairs_round : (goal : FlowWalk) (exact : Bool) (t u : m.Tree) (ps here : m.Pairs) → here ≡ m.and_pair exact t u ps → NotesOne W a w w1 t → NotesOne W a w1 w2 u
        → noting w (contributions_of_pairs W (walk_scope_of w) here) (found_in_pairs W a (walk_scope_of w) here) ≡ goal
        → noting w2 (contributions_of_pairs W (walk_scope_of w2) ps) (found_in_pairs W a (walk_scope_of w2) ps) ≡ goal
    pairs_round goal exact t u ps here next one two before =
        notes_round w w2 goal (λ sc. contributions W sc one_value t ++ contributions W sc one_value u) (λ sc. contributions_of_pairs W sc ps) (λ sc. contributions_of_pairs W sc here)
        (λ sc. found W a sc one_value t ++ found W a sc one_value u) (λ sc. found_in_pairs W a sc ps) (λ sc. found_in_pairs W a sc here)
        (pair_notes W a w w1 w2 t u one two) (ap (contributions_of_pairs W (walk_scope_of w)) next) (ap (found_in_pairs W a (walk_scope_of w)) next) before

    pub pairs_given_round : (goal all key held : Bool) (exact : Bool) (t u : m.Tree) (ps here : m.Pairs) → here ≡ m.and_pair exact t u ps → NotesOne W a w w1 t → NotesOne W a w1 w2 u
        → key ≡ is_some (walk W (walk_scope_of w) one_value t) → held ≡ is_some (walk W (walk_scope_of w1) one_value u)
        → (all && is_some (walk_pairs W (walk_scope_of w) here)) ≡ goal → (all && key && held && is_some (walk_pairs W (walk_scope_of w2) ps)) ≡ goal
    pairs_given_round goal all key held exact t u ps here next one two first second before =
        let both : w2 ≡ noting w (contributions W (walk_scope_of w) one_value t ++ contributions W (walk_scope_of w) one_value u) (found W a (walk_scope_of w) one_value t ++ found W a (walk_scope_of w) one_value u) =
        pair_notes W a w w1 w2 t u one two in
        ap (λ x. all && key && held && is_some (walk_pairs W (walk_scope_of x) ps)) both
        ∙ both_round all key held (walk W (walk_scope_of w) one_value t) (walk W (walk_scope_of w) one_value u) (walk_pairs W (walk_scope_of w) ps) first (second ∙ ap (λ x. is_some (walk W (walk_scope_of x) one_value u)) one)
        ∙ ap (λ xs. all && is_some (walk_pairs W (walk_scope_of w) xs)) (sym next) ∙ before

    pub segments_round : (goal : FlowWalk) (t : m.Tree) (ts : m.Trees) (ss here : m.Segments) → here ≡ m.and_segment t ts ss → NotesOne W a w w1 t → NotesAll W a w1 w2 ts
        → noting w (contributions_of_segments W (walk_scope_of w) here) (found_in_segments W a (walk_scope_of w) here) ≡ goal
        → noting w2 (contributions_of_segments W (walk_scope_of w2) ss) (found_in_segments W a (walk_scope_of w2) ss) ≡ goal
    segments_round goal t ts ss here next one two before =
        notes_round w w2 goal (λ sc. contributions W sc one_value t ++ contributions_of_all W sc ts) (λ sc. contributions_of_segments W sc ss) (λ sc. contributions_of_segments W sc here)
        (λ sc. found W a sc one_value t ++ found_in_all W a sc ts) (λ sc. found_in_segments W a sc ss) (λ sc. found_in_segments W a sc here)
        (segment_notes W a w w1 w2 t ts one two) (ap (contributions_of_segments W (walk_scope_of w)) next) (ap (found_in_segments W a (walk_scope_of w)) next) before

    pub segments_given_round : (goal all held there : Bool) (t : m.Tree) (ts : m.Trees) (ss here : m.Segments) (g : Given) → here ≡ m.and_segment t ts ss → NotesOne W a w w1 t → NotesAll W a w1 w2 ts
        → held ≡ is_some (walk W (walk_scope_of w) one_value t) → g ≡ walk_all W (walk_scope_of w1) ts → there ≡ is_some g
        → (all && is_some (walk_segments W (walk_scope_of w) here)) ≡ goal → (all && held && there && is_some (walk_segments W (walk_scope_of w2) ss)) ≡ goal
    segments_given_round goal all held there t ts ss here g next one two first second told before =
        let both : w2 ≡ noting w (contributions W (walk_scope_of w) one_value t ++ contributions_of_all W (walk_scope_of w) ts) (found W a (walk_scope_of w) one_value t ++ found_in_all W a (walk_scope_of w) ts) =
        segment_notes W a w w1 w2 t ts one two in
        ap (λ x. all && held && there && is_some (walk_segments W (walk_scope_of x) ss)) both
        ∙ both_round all held there (walk W (walk_scope_of w) one_value t) (walk_all W (walk_scope_of w) ts) (walk_segments W (walk_scope_of w) ss) first
        (told ∙ ap (λ h. is_some h) second ∙ ap (λ x. is_some (walk_all W (walk_scope_of x) ts)) one)
        ∙ ap (λ xs. all && is_some (walk_segments W (walk_scope_of w) xs)) (sym next) ∙ before
