-- The loops of the walk: what each round keeps.
use Rattle.std.proofs.Common.{◌≡◌, ℕ, ◌+◌, ◌<◌, List, [], ◌∷◌, ◌++◌, length, drop, get_or, refl, sym, ap, ◌∙◌}
use Rattle.std.proofs.lemmas.List.{append_assoc}
use Rattle.core_ast.specs.declared.syntax.FunName.{FunName}
use Rattle.core_ast.specs.declared.syntax.Expr.{Expr}
use Rattle.core_ast.specs.declared.syntax.Pattern.{Pattern}
use Rattle.core_ast.specs.declared.syntax.Clause.{Clause, out-Clause}
use Rattle.core_ast.specs.declared.syntax.MapPair.{MapPair}
use Rattle.core_ast.specs.declared.syntax.PatPair.{PatPair}
use Rattle.core_ast.specs.declared.syntax.Segment.{Segment, out-Segment}
use Rattle.core_ast.specs.declared.syntax.PatSegment.{PatSegment, out-PatSegment}
use Rattle.core_ast.specs.declared.syntax.FunDefOf.{FunDefOf}
use Rattle.core_ast.specs.declared.syntax.StepOf.{StepOf}
use Rattle.core_ast.specs.declared.syntax.StepOf.TheVariants.{Let, Do}
use Rattle.core_ast.specs.Model as m
use Rattle.core_ast.specs.Tree.{tree, pattern_tree, clause_parts, pair_parts, pat_pair_parts, segment_parts, pat_segment_parts, all_trees}
use Rattle.core_ast.specs.Tree.{all_patterns, all_pairs, all_pat_pairs, all_segments, all_pat_segments, all_steps, all_clauses, all_defs}
use Rattle.core_ast.proofs.Trees.{clause-is, pair-is, segment-is, pat_pair-is, pat_segment-is}
use Rattle.core_ast.proofs.Items.{all_trees-next, all_patterns-next, all_pairs-next, all_pat_pairs-next, all_segments-next, all_pat_segments-next, all_steps-next, all_clauses-next, all_defs-next}
use Rattle.core_scope.specs.Names.{defined_names}
use Rattle.call_graph.specs.declared.walk.CallWalk.{CallWalk}
use Rattle.call_graph.specs.Targets.{targets, all_targets, pair_targets, segment_targets, step_targets, clause_targets, def_targets, pattern_targets, patterns_targets, pat_pair_targets, pat_segment_targets}
use Rattle.call_graph.specs.steps.Walking.{noting, defining, step_expression}
use Rattle.call_graph.proofs.Notes.{Part, next_step, round, with_locals}

pub all_round : (w w1 goal : CallWalk) (es : List Expr) (i : ℕ) (e : Expr) → i < length es → e ≡ get_or es i e → w1 ≡ noting w (targets w.locals (tree e)) → noting w (all_targets w.locals (all_trees (drop i es))) ≡ goal
    → noting w1 (all_targets w1.locals (all_trees (drop (i + 1) es))) ≡ goal
all_round w w1 goal es i e within is step before =
    let rest : m.Trees = all_trees (drop (i + 1) es) in
    round w w1 goal (λ fs. targets fs (tree e)) (λ fs. all_targets fs rest) (λ fs. all_targets fs (all_trees (drop i es))) step
    (ap (all_targets w.locals) (all_trees-next es i e within ∙ ap (λ x. m.and_tree (tree x) rest) (sym is))) before

pub pairs_round : (w w1 w2 goal : CallWalk) (ps : List MapPair) (i : ℕ) (p : MapPair) → i < length ps → p ≡ get_or ps i p → w1 ≡ noting w (targets w.locals (tree p.key)) → w2 ≡ noting w1 (targets w1.locals (tree p.value))
    → noting w (pair_targets w.locals (all_pairs (drop i ps))) ≡ goal → noting w2 (pair_targets w2.locals (all_pairs (drop (i + 1) ps))) ≡ goal
pairs_round w w1 w2 goal ps i p within is one two before =
    let rest : m.Pairs = all_pairs (drop (i + 1) ps) in
    round w w2 goal (λ fs. targets fs (tree p.key) ++ targets fs (tree p.value)) (λ fs. pair_targets fs rest) (λ fs. pair_targets fs (all_pairs (drop i ps)))
    (next_step w w1 w2 (targets w.locals (tree p.key)) (λ fs. targets fs (tree p.value)) one two)
    (ap (pair_targets w.locals) (all_pairs-next ps i p within ∙ ap (λ x. let y = pair_parts x in m.and_pair y.exact y.key y.value rest) (sym is) ∙ ap (λ y. m.and_pair y.exact y.key y.value rest) (pair-is p))) before

pub segments_round : (w w1 w2 goal : CallWalk) (ss : List Segment) (i : ℕ) (x : Segment) (args : List Expr) → i < length ss → x ≡ get_or ss i x → w1 ≡ noting w (targets w.locals (tree (out-Segment x).value))
    → args ≡ (out-Segment x).args → w2 ≡ noting w1 (all_targets w1.locals (all_trees args))
    → noting w (segment_targets w.locals (all_segments (drop i ss))) ≡ goal → noting w2 (segment_targets w2.locals (all_segments (drop (i + 1) ss))) ≡ goal
segments_round w w1 w2 goal ss i x args within is one args_are two before =
    let rest : m.Segments = all_segments (drop (i + 1) ss) in
    round w w2 goal (λ fs. targets fs (tree (out-Segment x).value) ++ all_targets fs (all_trees args)) (λ fs. segment_targets fs rest) (λ fs. segment_targets fs (all_segments (drop i ss)))
    (next_step w w1 w2 (targets w.locals (tree (out-Segment x).value)) (λ fs. all_targets fs (all_trees args)) one two)
    (ap (segment_targets w.locals) (all_segments-next ss i x within ∙ ap (λ z. let y = segment_parts z in m.and_segment y.value y.args rest) (sym is) ∙ ap (λ y. m.and_segment y.value y.args rest) (segment-is x)
    ∙ ap (λ ts. m.and_segment (tree (out-Segment x).value) (all_trees ts) rest) (sym args_are))) before

step_first : (fs : List FunName) (x : StepOf Expr) (rest : List (StepOf Expr)) → step_targets fs (all_steps (x ∷ rest)) ≡ targets fs (tree (step_expression x)) ++ step_targets fs (all_steps rest)
step_first fs (Let k xs e) rest = refl
step_first fs (Do k e) rest = refl

pub steps_round : (w w1 goal : CallWalk) (ss : List (StepOf Expr)) (i : ℕ) (x : StepOf Expr) (e : Expr) → i < length ss → x ≡ get_or ss i x → e ≡ step_expression x → w1 ≡ noting w (targets w.locals (tree e))
    → noting w (step_targets w.locals (all_steps (drop i ss))) ≡ goal → noting w1 (step_targets w1.locals (all_steps (drop (i + 1) ss))) ≡ goal
steps_round w w1 goal ss i x e within is own step before =
    let rest : List (StepOf Expr) = drop (i + 1) ss in
    round w w1 goal (λ fs. targets fs (tree e)) (λ fs. step_targets fs (all_steps rest)) (λ fs. step_targets fs (all_steps (drop i ss))) step
    (ap (step_targets w.locals) (all_steps-next ss i x within ∙ ap (λ z. all_steps (z ∷ rest)) (sym is)) ∙ step_first w.locals x rest ∙ ap (λ z. targets w.locals (tree z) ++ step_targets w.locals (all_steps rest)) (sym own))
    before

pub clauses_round : (w w1 w2 w3 goal : CallWalk) (cs : List Clause) (i : ℕ) (c : Clause) (ps : List Pattern) → i < length cs → c ≡ get_or cs i c → ps ≡ (out-Clause c).patterns
    → w1 ≡ noting w (patterns_targets w.locals (all_patterns ps))
    → w2 ≡ noting w1 (targets w1.locals (tree (out-Clause c).guard)) → w3 ≡ noting w2 (targets w2.locals (tree (out-Clause c).body))
    → noting w (clause_targets w.locals (all_clauses (drop i cs))) ≡ goal → noting w3 (clause_targets w3.locals (all_clauses (drop (i + 1) cs))) ≡ goal
clauses_round w w1 w2 w3 goal cs i c ps within is ps_are one two three before =
    let rest : m.Clauses = all_clauses (drop (i + 1) cs) in
    let guard : Part = λ fs. targets fs (tree (out-Clause c).guard) in
    let body : Part = λ fs. targets fs (tree (out-Clause c).body) in
    let own : Part = λ fs. patterns_targets fs (all_patterns ps) in
    round w w3 goal (λ fs. own fs ++ guard fs ++ body fs) (λ fs. clause_targets fs rest) (λ fs. clause_targets fs (all_clauses (drop i cs)))
    (next_step w w2 w3 (own w.locals ++ guard w.locals) body (next_step w w1 w2 (own w.locals) guard one two) three)
    (ap (clause_targets w.locals) (all_clauses-next cs i c within ∙ ap (λ x. let y = clause_parts x in m.and_clause y.mark y.patterns y.guard y.body rest) (sym is)
    ∙ ap (λ y. m.and_clause y.mark y.patterns y.guard y.body rest) (clause-is c)
    ∙ ap (λ qs. m.and_clause (out-Clause c).mark (all_patterns qs) (tree (out-Clause c).guard) (tree (out-Clause c).body) rest) (sym ps_are))) before

pub defs_round : (w w1 goal : CallWalk) (ds : List (FunDefOf Expr)) (i : ℕ) (d : FunDefOf Expr) (body : Expr) → i < length ds → d ≡ get_or ds i d → body ≡ d.fun.body → w1 ≡ noting w (targets w.locals (tree body))
    → noting w (def_targets w.locals (all_defs (drop i ds))) ≡ goal → noting w1 (def_targets w1.locals (all_defs (drop (i + 1) ds))) ≡ goal
defs_round w w1 goal ds i d body within is body_is step before =
    let rest : m.Defs = all_defs (drop (i + 1) ds) in
    round w w1 goal (λ fs. targets fs (tree body)) (λ fs. def_targets fs rest) (λ fs. def_targets fs (all_defs (drop i ds))) step
    (ap (def_targets w.locals) (all_defs-next ds i d within ∙ ap (λ x. m.and_def x.name x.mark x.fun.params (tree x.fun.body) rest) (sym is)) ∙ ap (λ b. targets w.locals (tree b) ++ def_targets w.locals rest) (sym body_is)) before

pub patterns_round : (w w1 goal : CallWalk) (ps : List Pattern) (i : ℕ) (x : Pattern) → i < length ps → x ≡ get_or ps i x → w1 ≡ noting w (pattern_targets w.locals (pattern_tree x))
    → noting w (patterns_targets w.locals (all_patterns (drop i ps))) ≡ goal → noting w1 (patterns_targets w1.locals (all_patterns (drop (i + 1) ps))) ≡ goal
patterns_round w w1 goal ps i x within is step before =
    let rest : m.Patterns = all_patterns (drop (i + 1) ps) in
    round w w1 goal (λ fs. pattern_targets fs (pattern_tree x)) (λ fs. patterns_targets fs rest) (λ fs. patterns_targets fs (all_patterns (drop i ps))) step
    (ap (patterns_targets w.locals) (all_patterns-next ps i x within ∙ ap (λ z. m.and_pattern (pattern_tree z) rest) (sym is))) before

pub pat_pairs_round : (w w1 w2 goal : CallWalk) (ps : List PatPair) (i : ℕ) (x : PatPair) → i < length ps → x ≡ get_or ps i x → w1 ≡ noting w (targets w.locals (tree x.key))
    → w2 ≡ noting w1 (pattern_targets w1.locals (pattern_tree x.value))
    → noting w (pat_pair_targets w.locals (all_pat_pairs (drop i ps))) ≡ goal → noting w2 (pat_pair_targets w2.locals (all_pat_pairs (drop (i + 1) ps))) ≡ goal
pat_pairs_round w w1 w2 goal ps i x within is one two before =
    let rest : m.PatPairs = all_pat_pairs (drop (i + 1) ps) in
    round w w2 goal (λ fs. targets fs (tree x.key) ++ pattern_targets fs (pattern_tree x.value)) (λ fs. pat_pair_targets fs rest) (λ fs. pat_pair_targets fs (all_pat_pairs (drop i ps)))
    (next_step w w1 w2 (targets w.locals (tree x.key)) (λ fs. pattern_targets fs (pattern_tree x.value)) one two)
    (ap (pat_pair_targets w.locals) (all_pat_pairs-next ps i x within ∙ ap (λ z. let y = pat_pair_parts z in m.and_pat_pair y.key y.value rest) (sym is) ∙ ap (λ y. m.and_pat_pair y.key y.value rest) (pat_pair-is x))) before

pub pat_segments_round : (w w1 w2 goal : CallWalk) (ss : List PatSegment) (i : ℕ) (x : PatSegment) (args : List Expr) → i < length ss → x ≡ get_or ss i x
    → w1 ≡ noting w (pattern_targets w.locals (pattern_tree (out-PatSegment x).value)) → args ≡ (out-PatSegment x).args
    → w2 ≡ noting w1 (all_targets w1.locals (all_trees args))
    → noting w (pat_segment_targets w.locals (all_pat_segments (drop i ss))) ≡ goal → noting w2 (pat_segment_targets w2.locals (all_pat_segments (drop (i + 1) ss))) ≡ goal
pat_segments_round w w1 w2 goal ss i x args within is one args_are two before =
    let rest : m.PatSegments = all_pat_segments (drop (i + 1) ss) in
    round w w2 goal (λ fs. pattern_targets fs (pattern_tree (out-PatSegment x).value) ++ all_targets fs (all_trees args)) (λ fs. pat_segment_targets fs rest) (λ fs. pat_segment_targets fs (all_pat_segments (drop i ss)))
    (next_step w w1 w2 (pattern_targets w.locals (pattern_tree (out-PatSegment x).value)) (λ fs. all_targets fs (all_trees args)) one two)
    (ap (pat_segment_targets w.locals) (all_pat_segments-next ss i x within ∙ ap (λ z. let y = pat_segment_parts z in m.and_pat_segment y.value y.args rest) (sym is) ∙ ap (λ y. m.and_pat_segment y.value y.args rest) (pat_segment-is x)
    ∙ ap (λ ts. m.and_pat_segment (pattern_tree (out-PatSegment x).value) (all_trees ts) rest) (sym args_are))) before

-- The names of a `letrec`.
pub names_round : (w goal : CallWalk) (names : List FunName) (ds : List (FunDefOf Expr)) (i : ℕ) (d : FunDefOf Expr) → i < length ds → d ≡ get_or ds i d → names ≡ w.locals ++ d.name ∷ []
    → defining w (defined_names (all_defs (drop i ds))) ≡ goal
    → defining (with_locals w names) (defined_names (all_defs (drop (i + 1) ds))) ≡ goal
names_round w goal names ds i d within is pushed before =
    let rest : m.Defs = all_defs (drop (i + 1) ds) in
    ap (λ l. with_locals w (l ++ defined_names rest)) pushed ∙ ap (with_locals w) (append_assoc w.locals (d.name ∷ []) (defined_names rest))
    ∙ ap (λ z. defining w (defined_names z)) (sym (all_defs-next ds i d within ∙ ap (λ x. m.and_def x.name x.mark x.fun.params (tree x.fun.body) rest) (sym is))) ∙ before
