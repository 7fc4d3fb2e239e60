-- The loops of the walk through expressions and patterns: what each round keeps.
use Rattle.std.proofs.Common.{◌≡◌, ℕ, ◌+◌, ◌<◌, ◌≤◌, List, [], ◌∷◌, ◌++◌, length, map, drop, get_or, sym, ap, ◌∙◌}
use Rattle.std.proofs.Math.ListN.{drop_of_length-le}
use Rattle.std.proofs.lemmas.List.{append_assoc, append-nil, map-append}
use Rattle.type_kinds.specs.declared.atom.Atom.{Atom}
use Rattle.core_ast.specs.declared.syntax.Expr.{Expr}
use Rattle.core_ast.specs.declared.syntax.MapPair.{MapPair}
use Rattle.core_ast.specs.declared.syntax.PatPair.{PatPair}
use Rattle.core_ast.specs.declared.syntax.PatSegment.{PatSegment, out-PatSegment}
use Rattle.core_ast.specs.declared.syntax.Pattern.{Pattern}
use Rattle.core_ast.specs.declared.syntax.Segment.{Segment, out-Segment}
use Rattle.core_ast.specs.Model as m
use Rattle.core_ast.specs.Tree.{all_pairs, all_pat_pairs, all_pat_segments, all_patterns, all_segments, all_trees, pair_parts, pat_pair_parts, pat_segment_parts, pattern_tree, segment_parts, tree}
use Rattle.core_ast.proofs.Items.{all_pairs-next, all_pat_pairs-next, all_pat_segments-next, all_patterns-next, all_segments-next, all_trees-next}
use Rattle.core_ast.proofs.Trees.{pair-is, pat_pair-is, pat_segment-is, segment-is}
use Rattle.core_meaning.specs.Programs.{Program}
use Rattle.core_scope.specs.Asks.{one_value}
use Rattle.fun_flow_places.specs.Naming.{place_named}
use Rattle.fun_flow_places.specs.declared.places.FlowPlace.{FlowPlace}
use Rattle.fun_flow_places.specs.declared.places.FlowPlace.TheVariants.{Anywhere}
use Rattle.fun_flow_rules.specs.declared.walk.RuleWalk.{RuleWalk}
use Rattle.fun_flow_rules.specs.steps.Walking.{Binding, Binds, Entering, Gives, GivesOne, Going, Makes, Part, PatternBinds, Sees, with_rules}
use Rattle.fun_flow_rules.proofs.Steps.{binds_then, entering_ends, entering_on, going_ends, going_on, makes_binds, makes_then, sees_on}
use Rattle.fun_flow_rules.proofs.Rounds.{rest_drop}
use Rattle.fun_flow_sets.specs.Items as s
use Rattle.fun_flow_sets.specs.Rules.{places, places_of_all, places_of_pairs, rules, rules_of_all, rules_of_heads, rules_of_pairs, rules_of_pat_pairs, rules_of_pat_segments, rules_of_pattern, rules_of_patterns, rules_of_segments}
use Rattle.fun_flow_sets.specs.Scopes.{Scope, first, rest, with_heads, with_pat_pairs, with_pat_segments, with_pattern, with_patterns}

-- ---- expressions

pub trees_round : (old now new : RuleWalk) (es : List Expr) (i : ℕ) (e : Expr) (all : Part) → i < length es → e ≡ get_or es i e → Makes now new (λ U home sc. rules U home sc one_value (tree e))
    → Going old now (λ U home sc. rules_of_all U home sc (all_trees (drop i es))) all → Going old new (λ U home sc. rules_of_all U home sc (all_trees (drop (i + 1) es))) all
trees_round old now new es i e all within is step before =
    going_on old now new (λ U home sc. rules_of_all U home sc (all_trees (drop i es))) (λ U home sc. rules U home sc one_value (tree e)) (λ U home sc. rules_of_all U home sc (all_trees (drop (i + 1) es))) all before step
    (λ U home sc. ap (rules_of_all U home sc) (all_trees-next es i e within ∙ ap (λ x. m.and_tree (tree x) (all_trees (drop (i + 1) es))) (sym is)))

-- the places so far, and those that follow
pub places_round : (old now : RuleWalk) (es : List Expr) (i : ℕ) (e : Expr) (ps qs : List FlowPlace) (p : FlowPlace) → i < length es → e ≡ get_or es i e → now ≡ with_rules old now.rules
    → GivesOne now p (λ U home sc. first (places U home sc one_value (tree e))) → qs ≡ ps ++ p ∷ []
    → ((U : Program) (home : Atom) (sc : Scope) → Sees U home sc old → map (place_named U) ps ++ places_of_all U home sc (all_trees (drop i es)) ≡ places_of_all U home sc (all_trees es))
    → (U : Program) (home : Atom) (sc : Scope) → Sees U home sc old → map (place_named U) qs ++ places_of_all U home sc (all_trees (drop (i + 1) es)) ≡ places_of_all U home sc (all_trees es)
places_round old now es i e ps qs p within is kept given pushed before U home sc h =
    let left : List s.Place = places_of_all U home sc (all_trees (drop (i + 1) es)) in
    ap (λ l. map (place_named U) l ++ left) pushed ∙ ap (λ l. l ++ left) (map-append (place_named U) ps (p ∷ [])) ∙ append_assoc (map (place_named U) ps) (place_named U p ∷ []) left
    ∙ ap (λ q. map (place_named U) ps ++ q ∷ left) (given U home sc (sees_on U home sc old now kept h))
    ∙ ap (λ l. map (place_named U) ps ++ places_of_all U home sc l) (sym (all_trees-next es i e within ∙ ap (λ x. m.and_tree (tree x) (all_trees (drop (i + 1) es))) (sym is))) ∙ before U home sc h

pub pairs_round : (old now mid new : RuleWalk) (ps : List MapPair) (i : ℕ) (x : MapPair) (all : Part) → i < length ps → x ≡ get_or ps i x → Makes now mid (λ U home sc. rules U home sc one_value (tree x.key))
    → Makes mid new (λ U home sc. rules U home sc one_value (tree x.value))
    → Going old now (λ U home sc. rules_of_pairs U home sc (all_pairs (drop i ps))) all → Going old new (λ U home sc. rules_of_pairs U home sc (all_pairs (drop (i + 1) ps))) all
pairs_round old now mid new ps i x all within is one two before =
    let rest : m.Pairs = all_pairs (drop (i + 1) ps) in
    going_on old now new (λ U home sc. rules_of_pairs U home sc (all_pairs (drop i ps))) (λ U home sc. rules U home sc one_value (tree x.key) ++ rules U home sc one_value (tree x.value))
    (λ U home sc. rules_of_pairs U home sc rest) all before
    (makes_then now mid new (λ U home sc. rules U home sc one_value (tree x.key)) (λ U home sc. rules U home sc one_value (tree x.value)) one two)
    (λ U home sc. ap (rules_of_pairs U home sc) (all_pairs-next ps i x within ∙ ap (λ z. let y = pair_parts z in m.and_pair y.exact y.key y.value rest) (sym is) ∙ ap (λ y. m.and_pair y.exact y.key y.value rest) (pair-is x))
    ∙ sym (append_assoc (rules U home sc one_value (tree x.key)) (rules U home sc one_value (tree x.value)) (rules_of_pairs U home sc rest)))

pub pair_places_round : (old now mid : RuleWalk) (es : List MapPair) (i : ℕ) (x : MapPair) (ps qs rs : List FlowPlace) (p q : FlowPlace) → i < length es → x ≡ get_or es i x → now ≡ with_rules old now.rules
    → mid ≡ with_rules now mid.rules
    → GivesOne now p (λ U home sc. first (places U home sc one_value (tree x.key)))
    → GivesOne mid q (λ U home sc. first (places U home sc one_value (tree x.value))) → qs ≡ ps ++ p ∷ [] → rs ≡ qs ++ q ∷ []
    → ((U : Program) (home : Atom) (sc : Scope) → Sees U home sc old → map (place_named U) ps ++ places_of_pairs U home sc (all_pairs (drop i es)) ≡ places_of_pairs U home sc (all_pairs es))
    → (U : Program) (home : Atom) (sc : Scope) → Sees U home sc old → map (place_named U) rs ++ places_of_pairs U home sc (all_pairs (drop (i + 1) es)) ≡ places_of_pairs U home sc (all_pairs es)
pair_places_round old now mid es i x ps qs rs p q within is kept more key value first_pushed pushed before U home sc h =
    let rest : m.Pairs = all_pairs (drop (i + 1) es) in
    let left : List s.Place = places_of_pairs U home sc rest in
    let here : Sees U home sc now = sees_on U home sc old now kept h in
    ap (λ l. map (place_named U) l ++ left) (pushed ∙ ap (λ l. l ++ q ∷ []) first_pushed ∙ append_assoc ps (p ∷ []) (q ∷ [])) ∙ ap (λ l. l ++ left) (map-append (place_named U) ps (p ∷ q ∷ []))
    ∙ append_assoc (map (place_named U) ps) (place_named U p ∷ place_named U q ∷ []) left ∙ ap (λ z. map (place_named U) ps ++ z ∷ place_named U q ∷ left) (key U home sc here)
    ∙ ap (λ z. map (place_named U) ps ++ first (places U home sc one_value (tree x.key)) ∷ z ∷ left) (value U home sc (sees_on U home sc now mid more here))
    ∙ ap (λ l. map (place_named U) ps ++ places_of_pairs U home sc l) (sym (all_pairs-next es i x within ∙ ap (λ z. let y = pair_parts z in m.and_pair y.exact y.key y.value rest) (sym is) ∙ ap
    (λ y. m.and_pair y.exact y.key y.value rest) (pair-is x))) ∙ before U home sc h

pub segments_round : (old now mid new : RuleWalk) (ss : List Segment) (i : ℕ) (x : Segment) (args : List Expr) (all : Part) → i < length ss → x ≡ get_or ss i x
    → Makes now mid (λ U home sc. rules U home sc one_value (tree (out-Segment x).value)) → args ≡ (out-Segment x).args
    → Makes mid new (λ U home sc. rules_of_all U home sc (all_trees args)) → Going old now (λ U home sc. rules_of_segments U home sc (all_segments (drop i ss))) all
    → Going old new (λ U home sc. rules_of_segments U home sc (all_segments (drop (i + 1) ss))) all
segments_round old now mid new ss i x args all within is one args_are two before =
    let rest : m.Segments = all_segments (drop (i + 1) ss) in
    let value : m.Tree = tree (out-Segment x).value in
    going_on old now new (λ U home sc. rules_of_segments U home sc (all_segments (drop i ss))) (λ U home sc. rules U home sc one_value value ++ rules_of_all U home sc (all_trees args))
    (λ U home sc. rules_of_segments U home sc rest) all before
    (makes_then now mid new (λ U home sc. rules U home sc one_value value) (λ U home sc. rules_of_all U home sc (all_trees args)) one two)
    (λ U home sc. ap (rules_of_segments U home sc) (all_segments-next ss i x within ∙ ap (λ z. let y = segment_parts z in m.and_segment y.value y.args rest) (sym is) ∙ ap (λ y. m.and_segment y.value y.args rest) (segment-is x)
    ∙ ap (λ ts. m.and_segment value (all_trees ts) rest) (sym args_are))
    ∙ sym (append_assoc (rules U home sc one_value value) (rules_of_all U home sc (all_trees args)) (rules_of_segments U home sc rest)))

-- ---- patterns

pub patterns_round : (old now new : RuleWalk) (place : FlowPlace) (ps : List Pattern) (i : ℕ) (x : Pattern) (all : Part) (whole : Binding) → i < length ps → x ≡ get_or ps i x → PatternBinds now new place (pattern_tree x)
    → Entering old now (λ U home sc. rules_of_patterns U home sc (place_named U place) (all_patterns (drop i ps))) all (λ U home sc. with_patterns (place_named U place) (all_patterns (drop i ps)) sc) whole
    → Entering old new (λ U home sc. rules_of_patterns U home sc (place_named U place) (all_patterns (drop (i + 1) ps))) all (λ U home sc. with_patterns (place_named U place) (all_patterns (drop (i + 1) ps)) sc) whole
patterns_round old now new place ps i x all whole within is step before =
    let rest : m.Patterns = all_patterns (drop (i + 1) ps) in
    let next : all_patterns (drop i ps) ≡ m.and_pattern (pattern_tree x) rest = all_patterns-next ps i x within ∙ ap (λ z. m.and_pattern (pattern_tree z) rest) (sym is) in
    entering_on old now new (λ U home sc. rules_of_patterns U home sc (place_named U place) (all_patterns (drop i ps))) (λ U home sc. rules_of_pattern U home sc (place_named U place) (pattern_tree x))
    (λ U home sc. rules_of_patterns U home sc (place_named U place) rest) all
    (λ U home sc. with_patterns (place_named U place) (all_patterns (drop i ps)) sc) (λ U home sc. with_pattern (place_named U place) (pattern_tree x) sc) (λ U home sc. with_patterns (place_named U place) rest sc) whole before step
    (λ U home sc. ap (rules_of_patterns U home sc (place_named U place)) next) (λ U home sc. ap (λ l. with_patterns (place_named U place) l sc) next)

pub pat_pairs_round : (old now mid new : RuleWalk) (place : FlowPlace) (ps : List PatPair) (i : ℕ) (x : PatPair) (all : Part) (whole : Binding) → i < length ps → x ≡ get_or ps i x
    → Makes now mid (λ U home sc. rules U home sc one_value (tree x.key)) → PatternBinds mid new place (pattern_tree x.value)
    → Entering old now (λ U home sc. rules_of_pat_pairs U home sc (place_named U place) (all_pat_pairs (drop i ps))) all (λ U home sc. with_pat_pairs (place_named U place) (all_pat_pairs (drop i ps)) sc) whole
    → Entering old new (λ U home sc. rules_of_pat_pairs U home sc (place_named U place) (all_pat_pairs (drop (i + 1) ps))) all (λ U home sc. with_pat_pairs (place_named U place) (all_pat_pairs (drop (i + 1) ps)) sc) whole
pat_pairs_round old now mid new place ps i x all whole within is one two before =
    let rest : m.PatPairs = all_pat_pairs (drop (i + 1) ps) in
    let next : all_pat_pairs (drop i ps) ≡ m.and_pat_pair (tree x.key) (pattern_tree x.value) rest = all_pat_pairs-next ps i x within ∙ ap (λ z. let y = pat_pair_parts z in m.and_pat_pair y.key y.value rest) (sym is)
    ∙ ap (λ y. m.and_pat_pair y.key y.value rest) (pat_pair-is x) in
    entering_on old now new (λ U home sc. rules_of_pat_pairs U home sc (place_named U place) (all_pat_pairs (drop i ps)))
    (λ U home sc. rules U home sc one_value (tree x.key) ++ rules_of_pattern U home sc (place_named U place) (pattern_tree x.value)) (λ U home sc. rules_of_pat_pairs U home sc (place_named U place) rest) all
    (λ U home sc. with_pat_pairs (place_named U place) (all_pat_pairs (drop i ps)) sc) (λ U home sc. with_pattern (place_named U place) (pattern_tree x.value) sc) (λ U home sc. with_pat_pairs (place_named U place) rest sc) whole before
    (binds_then now mid new (λ U home sc. rules U home sc one_value (tree x.key)) (λ U home sc. rules_of_pattern U home sc (place_named U place) (pattern_tree x.value)) (λ U home sc. sc)
    (λ U home sc. with_pattern (place_named U place) (pattern_tree x.value) sc) (makes_binds now mid (λ U home sc. rules U home sc one_value (tree x.key)) one) two)
    (λ U home sc. ap (rules_of_pat_pairs U home sc (place_named U place)) next ∙ sym (append_assoc (rules U home sc one_value (tree x.key)) (rules_of_pattern U home sc (place_named U place) (pattern_tree x.value))
    (rules_of_pat_pairs U home (with_pattern (place_named U place) (pattern_tree x.value) sc) (place_named U place) rest)))
    (λ U home sc. ap (λ l. with_pat_pairs (place_named U place) l sc) next)

pub pat_segments_round : (old now mid new : RuleWalk) (ss : List PatSegment) (i : ℕ) (x : PatSegment) (args : List Expr) (all : Part) (whole : Binding) → i < length ss → x ≡ get_or ss i x
    → PatternBinds now mid Anywhere (pattern_tree (out-PatSegment x).value) → args ≡ (out-PatSegment x).args
    → Makes mid new (λ U home sc. rules_of_all U home sc (all_trees args)) → Entering old now (λ U home sc. rules_of_pat_segments U home sc (all_pat_segments (drop i ss))) all
    (λ U home sc. with_pat_segments (all_pat_segments (drop i ss)) sc) whole
    → Entering old new (λ U home sc. rules_of_pat_segments U home sc (all_pat_segments (drop (i + 1) ss))) all (λ U home sc. with_pat_segments (all_pat_segments (drop (i + 1) ss)) sc) whole
pat_segments_round old now mid new ss i x args all whole within is one args_are two before =
    let rest : m.PatSegments = all_pat_segments (drop (i + 1) ss) in
    let value : m.Pattern = pattern_tree (out-PatSegment x).value in
    let next : all_pat_segments (drop i ss) ≡ m.and_pat_segment value (all_trees args) rest =
    all_pat_segments-next ss i x within ∙ ap (λ z. let y = pat_segment_parts z in m.and_pat_segment y.value y.args rest) (sym is) ∙ ap (λ y. m.and_pat_segment y.value y.args rest) (pat_segment-is x)
    ∙ ap (λ ts. m.and_pat_segment value (all_trees ts) rest) (sym args_are) in
    entering_on old now new (λ U home sc. rules_of_pat_segments U home sc (all_pat_segments (drop i ss))) (λ U home sc. rules_of_pattern U home sc s.anywhere value ++ rules_of_all U home (with_pattern s.anywhere value sc)
    (all_trees args)) (λ U home sc. rules_of_pat_segments U home sc rest) all
    (λ U home sc. with_pat_segments (all_pat_segments (drop i ss)) sc) (λ U home sc. with_pattern s.anywhere value sc) (λ U home sc. with_pat_segments rest sc) whole before
    (binds_then now mid new (λ U home sc. rules_of_pattern U home sc s.anywhere value) (λ U home sc. rules_of_all U home sc (all_trees args)) (λ U home sc. with_pattern s.anywhere value sc) (λ U home sc. sc) one
    (makes_binds mid new (λ U home sc. rules_of_all U home sc (all_trees args)) two))
    (λ U home sc. ap (rules_of_pat_segments U home sc) next ∙ sym (append_assoc (rules_of_pattern U home sc s.anywhere value) (rules_of_all U home (with_pattern s.anywhere value sc) (all_trees args))
    (rules_of_pat_segments U home (with_pattern s.anywhere value sc) rest)))
    (λ U home sc. ap (λ l. with_pat_segments l sc) next)

pub heads_round : (old now new : RuleWalk) (qs : List FlowPlace) (place : FlowPlace) (ps : List Pattern) (i : ℕ) (x : Pattern) (all : Part) (whole : Binding) → i < length ps → x ≡ get_or ps i x
    → ((U : Program) → place_named U place ≡ first (map (place_named U) (drop i qs))) → PatternBinds now new place (pattern_tree x)
    → Entering old now (λ U home sc. rules_of_heads U home sc (map (place_named U) (drop i qs)) (all_patterns (drop i ps))) all (λ U home sc. with_heads (map (place_named U) (drop i qs)) (all_patterns (drop i ps)) sc) whole
    → Entering old new (λ U home sc. rules_of_heads U home sc (map (place_named U) (drop (i + 1) qs)) (all_patterns (drop (i + 1) ps))) all
    (λ U home sc. with_heads (map (place_named U) (drop (i + 1) qs)) (all_patterns (drop (i + 1) ps)) sc) whole
heads_round old now new qs place ps i x all whole within is at step before =
    let left : m.Patterns = all_patterns (drop (i + 1) ps) in
    let t : m.Pattern = pattern_tree x in
    let next : all_patterns (drop i ps) ≡ m.and_pattern t left = all_patterns-next ps i x within ∙ ap (λ z. m.and_pattern (pattern_tree z) left) (sym is) in
    entering_on old now new (λ U home sc. rules_of_heads U home sc (map (place_named U) (drop i qs)) (all_patterns (drop i ps))) (λ U home sc. rules_of_pattern U home sc (place_named U place) t)
    (λ U home sc. rules_of_heads U home sc (map (place_named U) (drop (i + 1) qs)) left) all
    (λ U home sc. with_heads (map (place_named U) (drop i qs)) (all_patterns (drop i ps)) sc) (λ U home sc. with_pattern (place_named U place) t sc)
    (λ U home sc. with_heads (map (place_named U) (drop (i + 1) qs)) left sc) whole before step
    (λ U home sc. ap (rules_of_heads U home sc (map (place_named U) (drop i qs))) next
    ∙ ap (λ q. rules_of_pattern U home sc q t ++ rules_of_heads U home (with_pattern q t sc) (rest (map (place_named U) (drop i qs))) left) (sym (at U))
    ∙ ap (λ l. rules_of_pattern U home sc (place_named U place) t ++ rules_of_heads U home (with_pattern (place_named U place) t sc) l left) (rest_drop U qs i))
    (λ U home sc. ap (λ l. with_heads (map (place_named U) (drop i qs)) l sc) next ∙ ap (λ q. with_heads (rest (map (place_named U) (drop i qs))) left (with_pattern q t sc)) (sym (at U))
    ∙ ap (λ l. with_heads l left (with_pattern (place_named U place) t sc)) (rest_drop U qs i))

-- ---- the ends of these loops

pub trees_end : (old now : RuleWalk) (es : List Expr) (i : ℕ) (all : Part) → length es ≤ i → Going old now (λ U home sc. rules_of_all U home sc (all_trees (drop i es))) all → Makes old now all
trees_end old now es i all past h = going_ends old now (λ U home sc. rules_of_all U home sc (all_trees (drop i es))) all h (λ U home sc. ap (λ l. rules_of_all U home sc (all_trees l)) (drop_of_length-le es past))

pub places_end : (old : RuleWalk) (es : List Expr) (i : ℕ) (ps : List FlowPlace) → length es ≤ i
    → ((U : Program) (home : Atom) (sc : Scope) → Sees U home sc old → map (place_named U) ps ++ places_of_all U home sc (all_trees (drop i es))
    ≡ places_of_all U home sc (all_trees es)) → Gives old ps (λ U home sc. places_of_all U home sc (all_trees es))
places_end old es i ps past before U home sc h = sym (append-nil (map (place_named U) ps)) ∙ ap (λ l. map (place_named U) ps ++ places_of_all U home sc (all_trees l)) (sym (drop_of_length-le es past)) ∙ before U home sc h

pub pairs_end : (old now : RuleWalk) (ps : List MapPair) (i : ℕ) (all : Part) → length ps ≤ i → Going old now (λ U home sc. rules_of_pairs U home sc (all_pairs (drop i ps))) all → Makes old now all
pairs_end old now ps i all past h = going_ends old now (λ U home sc. rules_of_pairs U home sc (all_pairs (drop i ps))) all h (λ U home sc. ap (λ l. rules_of_pairs U home sc (all_pairs l)) (drop_of_length-le ps past))

pub pair_places_end : (old : RuleWalk) (es : List MapPair) (i : ℕ) (ps : List FlowPlace) → length es ≤ i
    → ((U : Program) (home : Atom) (sc : Scope) → Sees U home sc old → map (place_named U) ps ++ places_of_pairs U home sc (all_pairs
    (drop i es)) ≡ places_of_pairs U home sc (all_pairs es)) → Gives old ps (λ U home sc. places_of_pairs U home sc (all_pairs es))
pair_places_end old es i ps past before U home sc h = sym (append-nil (map (place_named U) ps)) ∙ ap (λ l. map (place_named U) ps ++ places_of_pairs U home sc (all_pairs l)) (sym (drop_of_length-le es past)) ∙ before U home sc h

pub segments_end : (old now : RuleWalk) (ss : List Segment) (i : ℕ) (all : Part) → length ss ≤ i → Going old now (λ U home sc. rules_of_segments U home sc (all_segments (drop i ss))) all → Makes old now all
segments_end old now ss i all past h = going_ends old now (λ U home sc. rules_of_segments U home sc (all_segments (drop i ss))) all h (λ U home sc. ap (λ l. rules_of_segments U home sc (all_segments l)) (drop_of_length-le ss past))

pub patterns_end : (old now : RuleWalk) (place : FlowPlace) (ps : List Pattern) (i : ℕ) (all : Part) (whole : Binding) → length ps ≤ i
    → Entering old now (λ U home sc. rules_of_patterns U home sc (place_named U place) (all_patterns (drop i ps))) all (λ U home sc. with_patterns (place_named U place) (all_patterns (drop i ps)) sc) whole → Binds old now all whole
patterns_end old now place ps i all whole past h =
    entering_ends old now (λ U home sc. rules_of_patterns U home sc (place_named U place) (all_patterns (drop i ps))) all (λ U home sc. with_patterns (place_named U place) (all_patterns (drop i ps)) sc) whole h
    (λ U home sc. ap (λ l. rules_of_patterns U home sc (place_named U place) (all_patterns l)) (drop_of_length-le ps past)) (λ U home sc. ap (λ l. with_patterns (place_named U place) (all_patterns l) sc) (drop_of_length-le ps past))

pub pat_pairs_end : (old now : RuleWalk) (place : FlowPlace) (ps : List PatPair) (i : ℕ) (all : Part) (whole : Binding) → length ps ≤ i
    → Entering old now (λ U home sc. rules_of_pat_pairs U home sc (place_named U place) (all_pat_pairs (drop i ps))) all (λ U home sc. with_pat_pairs (place_named U place) (all_pat_pairs (drop i ps)) sc) whole
    → Binds old now all whole
pat_pairs_end old now place ps i all whole past h =
    entering_ends old now (λ U home sc. rules_of_pat_pairs U home sc (place_named U place) (all_pat_pairs (drop i ps))) all (λ U home sc. with_pat_pairs (place_named U place) (all_pat_pairs (drop i ps)) sc) whole h
    (λ U home sc. ap (λ l. rules_of_pat_pairs U home sc (place_named U place) (all_pat_pairs l)) (drop_of_length-le ps past)) (λ U home sc. ap (λ l. with_pat_pairs (place_named U place) (all_pat_pairs l) sc) (drop_of_length-le ps past))

pub pat_segments_end : (old now : RuleWalk) (ss : List PatSegment) (i : ℕ) (all : Part) (whole : Binding) → length ss ≤ i
    → Entering old now (λ U home sc. rules_of_pat_segments U home sc (all_pat_segments (drop i ss))) all (λ U home sc. with_pat_segments (all_pat_segments (drop i ss)) sc) whole → Binds old now all whole
pat_segments_end old now ss i all whole past h =
    entering_ends old now (λ U home sc. rules_of_pat_segments U home sc (all_pat_segments (drop i ss))) all (λ U home sc. with_pat_segments (all_pat_segments (drop i ss)) sc) whole h
    (λ U home sc. ap (λ l. rules_of_pat_segments U home sc (all_pat_segments l)) (drop_of_length-le ss past)) (λ U home sc. ap (λ l. with_pat_segments (all_pat_segments l) sc) (drop_of_length-le ss past))

pub heads_end : (old now : RuleWalk) (qs : List FlowPlace) (ps : List Pattern) (i : ℕ) (all : Part) (whole : Binding) → length ps ≤ i
    → Entering old now (λ U home sc. rules_of_heads U home sc (map (place_named U) (drop i qs)) (all_patterns (drop i ps))) all (λ U home sc. with_heads (map (place_named U) (drop i qs)) (all_patterns (drop i ps)) sc) whole
    → Binds old now all whole
heads_end old now qs ps i all whole past h =
    entering_ends old now (λ U home sc. rules_of_heads U home sc (map (place_named U) (drop i qs)) (all_patterns (drop i ps))) all (λ U home sc. with_heads (map (place_named U) (drop i qs)) (all_patterns (drop i ps)) sc) whole h
    (λ U home sc. ap (λ l. rules_of_heads U home sc (map (place_named U) (drop i qs)) (all_patterns l)) (drop_of_length-le ps past))
    (λ U home sc. ap (λ l. with_heads (map (place_named U) (drop i qs)) (all_patterns l) sc) (drop_of_length-le ps past))
