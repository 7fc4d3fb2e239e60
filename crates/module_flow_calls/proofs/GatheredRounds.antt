-- The walk for functions and their names: what each round of its loops keeps.
use Rattle.std.proofs.Common.{◌≡◌, ℕ, ◌+◌, ◌<◌, List, [], ◌∷◌, ◌++◌, Some, length, drop, get_or, refl, sym, ap, ◌∙◌, append-nil}
use Rattle.core_ast.specs.declared.syntax.Expr.{Expr}
use Rattle.core_ast.specs.declared.syntax.Pattern.{Pattern}
use Rattle.core_ast.specs.declared.syntax.Clause.{Clause, out-Clause}
use Rattle.core_ast.specs.declared.syntax.MapPair.{MapPair}
use Rattle.core_ast.specs.declared.syntax.PatPair.{PatPair}
use Rattle.core_ast.specs.declared.syntax.Segment.{Segment, out-Segment}
use Rattle.core_ast.specs.declared.syntax.PatSegment.{PatSegment, out-PatSegment}
use Rattle.core_ast.specs.declared.syntax.FunDefOf.{FunDefOf}
use Rattle.core_ast.specs.declared.syntax.StepOf.{StepOf}
use Rattle.core_ast.specs.declared.syntax.StepOf.TheVariants.{Let, Do}
use Rattle.core_ast.specs.Model as m
use Rattle.core_ast.specs.Tree.{tree, pattern_tree, clause_parts, pair_parts, pat_pair_parts, segment_parts, pat_segment_parts, all_trees}
use Rattle.core_ast.specs.Tree.{all_patterns, all_pairs, all_pat_pairs, all_segments, all_pat_segments, all_steps, all_clauses, all_defs}
use Rattle.core_ast.proofs.Trees.{clause-is, pair-is, segment-is, pat_pair-is, pat_segment-is}
use Rattle.core_ast.proofs.Items.{all_trees-next, all_patterns-next, all_pairs-next, all_pat_pairs-next, all_segments-next, all_pat_segments-next, all_steps-next, all_clauses-next, all_defs-next}
use Rattle.core_scope.specs.Functions.{labelled_function}
use Rattle.module_flow_calls.specs.declared.names.DefinedFunction.{DefinedFunction}
use Rattle.module_flow_calls.specs.declared.names.NameWalk.{NameWalk}
use Rattle.module_flow_calls.specs.Escapes.{Defined}
use Rattle.module_flow_calls.specs.NamedFunctions.{named_function}
use Rattle.module_flow_calls.specs.steps.Gathering.{Gathered, and_then, defined_around, noting, with_function, in_tree, in_all, in_pairs, in_segments, in_steps}
use Rattle.module_flow_calls.specs.steps.Gathering.{in_clauses, in_definition, in_defs, in_pattern, in_patterns, in_pat_pairs, in_pat_segments, step_expression}
use Rattle.module_flow_calls.proofs.Gathered.{Part, next_step, round}

pub all_round : (w w1 goal : NameWalk) (es : List Expr) (i : ℕ) (e : Expr) → i < length es → e ≡ get_or es i e → w1 ≡ noting w (in_tree (defined_around w) (tree e))
    → noting w (in_all (defined_around w) (all_trees (drop i es))) ≡ goal → noting w1 (in_all (defined_around w1) (all_trees (drop (i + 1) es))) ≡ goal
all_round w w1 goal es i e within is step before =
    let rest : m.Trees = all_trees (drop (i + 1) es) in
    round w w1 goal (λ fs. in_tree fs (tree e)) (λ fs. in_all fs rest) (λ fs. in_all fs (all_trees (drop i es))) step
    (ap (in_all (defined_around w)) (all_trees-next es i e within ∙ ap (λ x. m.and_tree (tree x) rest) (sym is))) before

pub pairs_round : (w w1 w2 goal : NameWalk) (ps : List MapPair) (i : ℕ) (p : MapPair) → i < length ps → p ≡ get_or ps i p → w1 ≡ noting w (in_tree (defined_around w) (tree p.key))
    → w2 ≡ noting w1 (in_tree (defined_around w1) (tree p.value))
    → noting w (in_pairs (defined_around w) (all_pairs (drop i ps))) ≡ goal → noting w2 (in_pairs (defined_around w2) (all_pairs (drop (i + 1) ps))) ≡ goal
pairs_round w w1 w2 goal ps i p within is one two before =
    let rest : m.Pairs = all_pairs (drop (i + 1) ps) in
    round w w2 goal (λ fs. and_then (in_tree fs (tree p.key)) (in_tree fs (tree p.value))) (λ fs. in_pairs fs rest) (λ fs. in_pairs fs (all_pairs (drop i ps)))
    (next_step w w1 w2 (in_tree (defined_around w) (tree p.key)) (λ fs. in_tree fs (tree p.value)) one two)
    (ap (in_pairs (defined_around w)) (all_pairs-next ps i p within ∙ ap (λ x. let y = pair_parts x in m.and_pair y.exact y.key y.value rest) (sym is) ∙ ap (λ y. m.and_pair y.exact y.key y.value rest) (pair-is p))) before

pub segments_round : (w w1 w2 goal : NameWalk) (ss : List Segment) (i : ℕ) (x : Segment) (args : List Expr) → i < length ss → x ≡ get_or ss i x → w1 ≡ noting w (in_tree (defined_around w) (tree (out-Segment x).value))
    → args ≡ (out-Segment x).args → w2 ≡ noting w1 (in_all (defined_around w1) (all_trees args))
    → noting w (in_segments (defined_around w) (all_segments (drop i ss))) ≡ goal → noting w2 (in_segments (defined_around w2) (all_segments (drop (i + 1) ss))) ≡ goal
segments_round w w1 w2 goal ss i x args within is one args_are two before =
    let rest : m.Segments = all_segments (drop (i + 1) ss) in
    round w w2 goal (λ fs. and_then (in_tree fs (tree (out-Segment x).value)) (in_all fs (all_trees args))) (λ fs. in_segments fs rest) (λ fs. in_segments fs (all_segments (drop i ss)))
    (next_step w w1 w2 (in_tree (defined_around w) (tree (out-Segment x).value)) (λ fs. in_all fs (all_trees args)) one two)
    (ap (in_segments (defined_around w)) (all_segments-next ss i x within ∙ ap (λ z. let y = segment_parts z in m.and_segment y.value y.args rest) (sym is) ∙ ap (λ y. m.and_segment y.value y.args rest) (segment-is x)
    ∙ ap (λ ts. m.and_segment (tree (out-Segment x).value) (all_trees ts) rest) (sym args_are))) before

step_first : (fs : Defined) (x : StepOf Expr) (rest : List (StepOf Expr)) → in_steps fs (all_steps (x ∷ rest)) ≡ and_then (in_tree fs (tree (step_expression x))) (in_steps fs (all_steps rest))
step_first fs (Let k xs e) rest = refl
step_first fs (Do k e) rest = refl

pub steps_round : (w w1 goal : NameWalk) (ss : List (StepOf Expr)) (i : ℕ) (x : StepOf Expr) (e : Expr) → i < length ss → x ≡ get_or ss i x → e ≡ step_expression x → w1 ≡ noting w (in_tree (defined_around w) (tree e))
    → noting w (in_steps (defined_around w) (all_steps (drop i ss))) ≡ goal → noting w1 (in_steps (defined_around w1) (all_steps (drop (i + 1) ss))) ≡ goal
steps_round w w1 goal ss i x e within is own step before =
    let rest : List (StepOf Expr) = drop (i + 1) ss in
    round w w1 goal (λ fs. in_tree fs (tree e)) (λ fs. in_steps fs (all_steps rest)) (λ fs. in_steps fs (all_steps (drop i ss))) step
    (ap (in_steps (defined_around w)) (all_steps-next ss i x within ∙ ap (λ z. all_steps (z ∷ rest)) (sym is)) ∙ step_first (defined_around w) x rest
    ∙ ap (λ z. and_then (in_tree (defined_around w) (tree z)) (in_steps (defined_around w) (all_steps rest))) (sym own)) before

pub clauses_round : (w w1 w2 w3 goal : NameWalk) (cs : List Clause) (i : ℕ) (c : Clause) (ps : List Pattern) → i < length cs → c ≡ get_or cs i c → ps ≡ (out-Clause c).patterns
    → w1 ≡ noting w (in_patterns (defined_around w) (all_patterns ps))
    → w2 ≡ noting w1 (in_tree (defined_around w1) (tree (out-Clause c).guard)) → w3 ≡ noting w2 (in_tree (defined_around w2) (tree (out-Clause c).body))
    → noting w (in_clauses (defined_around w) (all_clauses (drop i cs))) ≡ goal → noting w3 (in_clauses (defined_around w3) (all_clauses (drop (i + 1) cs))) ≡ goal
clauses_round w w1 w2 w3 goal cs i c ps within is ps_are one two three before =
    let rest : m.Clauses = all_clauses (drop (i + 1) cs) in
    let guard : Part = λ fs. in_tree fs (tree (out-Clause c).guard) in
    let body : Part = λ fs. in_tree fs (tree (out-Clause c).body) in
    let own : Part = λ fs. in_patterns fs (all_patterns ps) in
    round w w3 goal (λ fs. and_then (and_then (own fs) (guard fs)) (body fs)) (λ fs. in_clauses fs rest) (λ fs. in_clauses fs (all_clauses (drop i cs)))
    (next_step w w2 w3 (and_then (own (defined_around w)) (guard (defined_around w))) body (next_step w w1 w2 (own (defined_around w)) guard one two) three)
    (ap (in_clauses (defined_around w)) (all_clauses-next cs i c within ∙ ap (λ x. let y = clause_parts x in m.and_clause y.mark y.patterns y.guard y.body rest) (sym is)
    ∙ ap (λ y. m.and_clause y.mark y.patterns y.guard y.body rest) (clause-is c)
    ∙ ap (λ qs. m.and_clause (out-Clause c).mark (all_patterns qs) (tree (out-Clause c).guard) (tree (out-Clause c).body) rest) (sym ps_are))) before

none_escape : (w : NameWalk) (g : DefinedFunction) → with_function w g ≡ record (with_function w g) { labels = w.labels ++ [] }
none_escape w g = λ i. record (with_function w g) { labels = sym (append-nil w.labels) i }

-- a definition is noted before the functions in its body
pub defs_round : (w w1 w2 goal : NameWalk) (ds : List (FunDefOf Expr)) (i : ℕ) (d d1 : FunDefOf Expr) (body : Expr) → i < length ds → d ≡ get_or ds i d → d1 ≡ d
    → w1 ≡ with_function w (named_function d1.mark.label d1.name (length d1.fun.params)) → body ≡ d1.fun.body
    → w2 ≡ noting w1 (in_tree (defined_around w1) (tree body)) → noting w (in_defs (defined_around w) (all_defs (drop i ds))) ≡ goal → noting w2 (in_defs (defined_around w2) (all_defs (drop (i + 1) ds))) ≡ goal
defs_round w w1 w2 goal ds i d d1 body within is same one body_is two before =
    let rest : m.Defs = all_defs (drop (i + 1) ds) in
    let own : Gathered = record { labels = []; functions = labelled_function d1.mark (Some d1.name) d1.fun.params (tree d1.fun.body) ∷ [] } in
    let first : w1 ≡ noting w own = one ∙ none_escape w (named_function d1.mark.label d1.name (length d1.fun.params)) in
    let second : w2 ≡ noting w1 (in_tree (defined_around w1) (tree d1.fun.body)) = two ∙ ap (λ z. noting w1 (in_tree (defined_around w1) (tree z))) body_is in
    let both : w2 ≡ noting w (in_definition (defined_around w) d1) = next_step w w1 w2 own (λ fs. in_tree fs (tree d1.fun.body)) first second in
    round w w2 goal (λ fs. in_definition fs d) (λ fs. in_defs fs rest) (λ fs. in_defs fs (all_defs (drop i ds))) (both ∙ ap (λ z. noting w (in_definition (defined_around w) z)) same)
    (ap (in_defs (defined_around w)) (all_defs-next ds i d within ∙ ap (λ x. m.and_def x.name x.mark x.fun.params (tree x.fun.body) rest) (sym is))) before

pub patterns_round : (w w1 goal : NameWalk) (ps : List Pattern) (i : ℕ) (x : Pattern) → i < length ps → x ≡ get_or ps i x → w1 ≡ noting w (in_pattern (defined_around w) (pattern_tree x))
    → noting w (in_patterns (defined_around w) (all_patterns (drop i ps))) ≡ goal → noting w1 (in_patterns (defined_around w1) (all_patterns (drop (i + 1) ps))) ≡ goal
patterns_round w w1 goal ps i x within is step before =
    let rest : m.Patterns = all_patterns (drop (i + 1) ps) in
    round w w1 goal (λ fs. in_pattern fs (pattern_tree x)) (λ fs. in_patterns fs rest) (λ fs. in_patterns fs (all_patterns (drop i ps))) step
    (ap (in_patterns (defined_around w)) (all_patterns-next ps i x within ∙ ap (λ z. m.and_pattern (pattern_tree z) rest) (sym is))) before

pub pat_pairs_round : (w w1 w2 goal : NameWalk) (ps : List PatPair) (i : ℕ) (x : PatPair) → i < length ps → x ≡ get_or ps i x → w1 ≡ noting w (in_tree (defined_around w) (tree x.key))
    → w2 ≡ noting w1 (in_pattern (defined_around w1) (pattern_tree x.value))
    → noting w (in_pat_pairs (defined_around w) (all_pat_pairs (drop i ps))) ≡ goal → noting w2 (in_pat_pairs (defined_around w2) (all_pat_pairs (drop (i + 1) ps))) ≡ goal
pat_pairs_round w w1 w2 goal ps i x within is one two before =
    let rest : m.PatPairs = all_pat_pairs (drop (i + 1) ps) in
    round w w2 goal (λ fs. and_then (in_tree fs (tree x.key)) (in_pattern fs (pattern_tree x.value))) (λ fs. in_pat_pairs fs rest) (λ fs. in_pat_pairs fs (all_pat_pairs (drop i ps)))
    (next_step w w1 w2 (in_tree (defined_around w) (tree x.key)) (λ fs. in_pattern fs (pattern_tree x.value)) one two)
    (ap (in_pat_pairs (defined_around w)) (all_pat_pairs-next ps i x within ∙ ap (λ z. let y = pat_pair_parts z in m.and_pat_pair y.key y.value rest) (sym is) ∙ ap (λ y. m.and_pat_pair y.key y.value rest) (pat_pair-is x))) before

pub pat_segments_round : (w w1 w2 goal : NameWalk) (ss : List PatSegment) (i : ℕ) (x : PatSegment) (args : List Expr) → i < length ss → x ≡ get_or ss i x
    → w1 ≡ noting w (in_pattern (defined_around w) (pattern_tree (out-PatSegment x).value)) → args ≡ (out-PatSegment x).args
    → w2 ≡ noting w1 (in_all (defined_around w1) (all_trees args))
    → noting w (in_pat_segments (defined_around w) (all_pat_segments (drop i ss))) ≡ goal → noting w2 (in_pat_segments (defined_around w2) (all_pat_segments (drop (i + 1) ss))) ≡ goal
pat_segments_round w w1 w2 goal ss i x args within is one args_are two before =
    let rest : m.PatSegments = all_pat_segments (drop (i + 1) ss) in
    round w w2 goal (λ fs. and_then (in_pattern fs (pattern_tree (out-PatSegment x).value)) (in_all fs (all_trees args))) (λ fs. in_pat_segments fs rest) (λ fs. in_pat_segments fs (all_pat_segments (drop i ss)))
    (next_step w w1 w2 (in_pattern (defined_around w) (pattern_tree (out-PatSegment x).value)) (λ fs. in_all fs (all_trees args)) one two)
    (ap (in_pat_segments (defined_around w)) (all_pat_segments-next ss i x within ∙ ap (λ z. let y = pat_segment_parts z in m.and_pat_segment y.value y.args rest) (sym is)
    ∙ ap (λ y. m.and_pat_segment y.value y.args rest) (pat_segment-is x)
    ∙ ap (λ ts. m.and_pat_segment (pattern_tree (out-PatSegment x).value) (all_trees ts) rest) (sym args_are))) before
