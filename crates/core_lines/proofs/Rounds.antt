-- The loops of the walk: what each round keeps.
use Rattle.std.proofs.Common.{◌≡◌, ℕ, ◌+◌, ◌<◌, List, [], ◌∷◌, ◌++◌, Option, length, drop, get_or, refl, sym, ap, ◌∙◌}
use Rattle.std.specs.Prelude.{unwrap_or}
use Rattle.core_ast.specs.declared.syntax.Expr.{Expr}
use Rattle.core_ast.specs.declared.syntax.Pattern.{Pattern}
use Rattle.core_ast.specs.declared.syntax.Clause.{Clause, out-Clause}
use Rattle.core_ast.specs.declared.syntax.MapPair.{MapPair}
use Rattle.core_ast.specs.declared.syntax.Mark.{Mark}
use Rattle.core_ast.specs.declared.syntax.PatPair.{PatPair}
use Rattle.core_ast.specs.declared.syntax.Segment.{Segment, out-Segment}
use Rattle.core_ast.specs.declared.syntax.PatSegment.{PatSegment, out-PatSegment}
use Rattle.core_ast.specs.declared.syntax.FunDefOf.{FunDefOf}
use Rattle.core_ast.specs.declared.syntax.StepOf.{StepOf}
use Rattle.core_ast.specs.declared.syntax.StepOf.TheVariants.{Let, Do}
use Rattle.core_ast.specs.Model as m
use Rattle.core_ast.specs.Tree.{tree, pattern_tree, clause_parts, pair_parts, pat_pair_parts, segment_parts, pat_segment_parts, all_trees}
use Rattle.core_ast.specs.Tree.{all_patterns, all_pairs, all_pat_pairs, all_segments, all_pat_segments, all_steps, all_clauses, all_defs}
use Rattle.core_ast.proofs.Trees.{clause-is, pair-is, segment-is, pat_pair-is, pat_segment-is}
use Rattle.core_ast.proofs.Items.{all_trees-next, all_patterns-next, all_pairs-next, all_pat_pairs-next, all_segments-next, all_pat_segments-next, all_steps-next, all_clauses-next, all_defs-next}
use Rattle.core_lines.specs.Lines.{behind, line_of, lines, lines_of_all, lines_of_clauses, lines_of_defs, lines_of_pairs, lines_of_segments}
use Rattle.core_lines.specs.Lines.{lines_of_steps, lines_of_pattern, lines_of_patterns, lines_of_pat_pairs, lines_of_pat_segments, noted}
use Rattle.core_lines.specs.steps.Parts.{step_mark, step_expression}
use Rattle.core_lines.proofs.Joining.{next, next_round, round, three_parts}

pub all_round : (o o1 goal : List ℕ) (a : Option ℕ) (es : List Expr) (i : ℕ) (e : Expr) → i < length es → e ≡ get_or es i e → o1 ≡ o ++ lines a (tree e) → o ++ lines_of_all a (all_trees (drop i es)) ≡ goal
    → o1 ++ lines_of_all a (all_trees (drop (i + 1) es)) ≡ goal
all_round o o1 goal a es i e within is step before =
    let rest : m.Trees = all_trees (drop (i + 1) es) in
    round o o1 goal (lines a (tree e)) (lines_of_all a rest) (lines_of_all a (all_trees (drop i es))) step
    (ap (lines_of_all a) (all_trees-next es i e within ∙ ap (λ x. m.and_tree (tree x) rest) (sym is))) before

pub pairs_round : (o o1 o2 goal : List ℕ) (a : Option ℕ) (ps : List MapPair) (i : ℕ) (p : MapPair) → i < length ps → p ≡ get_or ps i p → o1 ≡ o ++ lines a (tree p.key) → o2 ≡ o1 ++ lines a (tree p.value)
    → o ++ lines_of_pairs a (all_pairs (drop i ps)) ≡ goal → o2 ++ lines_of_pairs a (all_pairs (drop (i + 1) ps)) ≡ goal
pairs_round o o1 o2 goal a ps i p within is one two before =
    let rest : m.Pairs = all_pairs (drop (i + 1) ps) in
    next_round o o1 o2 goal (lines a (tree p.key)) (lines a (tree p.value)) (lines_of_pairs a rest) (lines_of_pairs a (all_pairs (drop i ps))) one two
    (ap (lines_of_pairs a) (all_pairs-next ps i p within ∙ ap (λ x. let y = pair_parts x in m.and_pair y.exact y.key y.value rest) (sym is) ∙ ap (λ y. m.and_pair y.exact y.key y.value rest) (pair-is p))) before

pub segments_round : (o o1 o2 goal : List ℕ) (a : Option ℕ) (ss : List Segment) (i : ℕ) (x : Segment) (args : List Expr) → i < length ss → x ≡ get_or ss i x → o1 ≡ o ++ lines a (tree (out-Segment x).value)
    → args ≡ (out-Segment x).args → o2 ≡ o1 ++ lines_of_all a (all_trees args)
    → o ++ lines_of_segments a (all_segments (drop i ss)) ≡ goal → o2 ++ lines_of_segments a (all_segments (drop (i + 1) ss)) ≡ goal
segments_round o o1 o2 goal a ss i x args within is one args_are two before =
    let rest : m.Segments = all_segments (drop (i + 1) ss) in
    next_round o o1 o2 goal (lines a (tree (out-Segment x).value)) (lines_of_all a (all_trees args)) (lines_of_segments a rest) (lines_of_segments a (all_segments (drop i ss))) one two
    (ap (lines_of_segments a) (all_segments-next ss i x within ∙ ap (λ z. let y = segment_parts z in m.and_segment y.value y.args rest) (sym is) ∙ ap (λ y. m.and_segment y.value y.args rest) (segment-is x)
    ∙ ap (λ ts. m.and_segment (tree (out-Segment x).value) (all_trees ts) rest) (sym args_are))) before

step_first : (a : Option ℕ) (x : StepOf Expr) (rest : List (StepOf Expr)) → lines_of_steps a (all_steps (x ∷ rest))
    ≡ line_of a (step_mark x) ∷ (lines (noted a (step_mark x)) (tree (step_expression x)) ++ lines_of_steps (noted a (step_mark x)) (all_steps rest))
step_first a (Let k xs e) rest = refl
step_first a (Do k e) rest = refl

step_behind : (a : Option ℕ) (x : StepOf Expr) (rest : List (StepOf Expr)) → behind a (all_steps (x ∷ rest)) ≡ behind (noted a (step_mark x)) (all_steps rest)
step_behind a (Let k xs e) rest = refl
step_behind a (Do k e) rest = refl

-- a step: what is there behind all of them, by the line of the innermost note around each
pub steps_round : (o o1 o2 goal : List ℕ) (a b : Option ℕ) (ss : List (StepOf Expr)) (i : ℕ) (x : StepOf Expr) (k : Mark) (e : Expr) → i < length ss → x ≡ get_or ss i x → k ≡ step_mark x → b ≡ noted a k
    → e ≡ step_expression x
    → o1 ≡ o ++ unwrap_or b k.place.line ∷ [] → o2 ≡ o1 ++ lines b (tree e)
    → o ++ lines_of_steps a (all_steps (drop i ss)) ≡ goal → o2 ++ lines_of_steps b (all_steps (drop (i + 1) ss)) ≡ goal
steps_round o o1 o2 goal a b ss i x k e within is mark_is inner own one two before =
    let rest : List (StepOf Expr) = drop (i + 1) ss in
    let there : b ≡ noted a (step_mark x) = inner ∙ ap (noted a) mark_is in
    next_round o o1 o2 goal (unwrap_or b k.place.line ∷ []) (lines b (tree e)) (lines_of_steps b (all_steps rest)) (lines_of_steps a (all_steps (drop i ss))) one two
    (ap (lines_of_steps a) (all_steps-next ss i x within ∙ ap (λ z. all_steps (z ∷ rest)) (sym is)) ∙ step_first a x rest
    ∙ ap (λ c. unwrap_or c (step_mark x).place.line ∷ (lines c (tree (step_expression x)) ++ lines_of_steps c (all_steps rest))) (sym there)
    ∙ ap (λ j. unwrap_or b j.place.line ∷ (lines b (tree (step_expression x)) ++ lines_of_steps b (all_steps rest))) (sym mark_is)
    ∙ ap (λ z. unwrap_or b k.place.line ∷ (lines b (tree z) ++ lines_of_steps b (all_steps rest))) (sym own)) before

pub behind_round : (goal a b : Option ℕ) (ss : List (StepOf Expr)) (i : ℕ) (x : StepOf Expr) (k : Mark) → i < length ss → x ≡ get_or ss i x → k ≡ step_mark x → b ≡ noted a k
    → behind a (all_steps (drop i ss)) ≡ goal → behind b (all_steps (drop (i + 1) ss)) ≡ goal
behind_round goal a b ss i x k within is mark_is inner before =
    let rest : List (StepOf Expr) = drop (i + 1) ss in
    ap (λ c. behind c (all_steps rest)) (inner ∙ ap (noted a) mark_is) ∙ sym (step_behind a x rest) ∙ sym (ap (behind a) (all_steps-next ss i x within ∙ ap (λ z. all_steps (z ∷ rest)) (sym is))) ∙ before

pub clauses_round : (o o1 o2 o3 o4 goal : List ℕ) (a b : Option ℕ) (cs : List Clause) (i : ℕ) (c : Clause) (ps : List Pattern) → i < length cs → c ≡ get_or cs i c → b ≡ noted a (out-Clause c).mark
    → o1 ≡ o ++ unwrap_or b (out-Clause c).mark.place.line ∷ []
    → ps ≡ (out-Clause c).patterns → o2 ≡ o1 ++ lines_of_patterns b (all_patterns ps) → o3 ≡ o2 ++ lines b (tree (out-Clause c).guard) → o4 ≡ o3 ++ lines b (tree (out-Clause c).body)
    → o ++ lines_of_clauses a (all_clauses (drop i cs)) ≡ goal → o4 ++ lines_of_clauses a (all_clauses (drop (i + 1) cs)) ≡ goal
clauses_round o o1 o2 o3 o4 goal a b cs i c ps within is inner own ps_are one two three before =
    let rest : m.Clauses = all_clauses (drop (i + 1) cs) in
    let y = out-Clause c in
    let line : List ℕ = unwrap_or b y.mark.place.line ∷ [] in
    round o o4 goal (line ++ (lines_of_patterns b (all_patterns ps) ++ lines b (tree y.guard) ++ lines b (tree y.body))) (lines_of_clauses a rest) (lines_of_clauses a (all_clauses (drop i cs)))
    (next o o1 o4 line (lines_of_patterns b (all_patterns ps) ++ lines b (tree y.guard) ++ lines b (tree y.body)) own
    (three_parts o1 o2 o3 o4 (lines_of_patterns b (all_patterns ps)) (lines b (tree y.guard)) (lines b (tree y.body)) one two three))
    (ap (lines_of_clauses a) (all_clauses-next cs i c within ∙ ap (λ x. let z = clause_parts x in m.and_clause z.mark z.patterns z.guard z.body rest) (sym is)
    ∙ ap (λ z. m.and_clause z.mark z.patterns z.guard z.body rest) (clause-is c)
    ∙ ap (λ qs. m.and_clause y.mark (all_patterns qs) (tree y.guard) (tree y.body) rest) (sym ps_are))
    ∙ ap (λ d. unwrap_or d y.mark.place.line ∷ (lines_of_patterns d (all_patterns ps) ++ lines d (tree y.guard) ++ lines d (tree y.body) ++ lines_of_clauses a rest)) (sym inner)) before

pub defs_round : (o o1 o2 goal : List ℕ) (a b : Option ℕ) (ds : List (FunDefOf Expr)) (i : ℕ) (d : FunDefOf Expr) (body : Expr) → i < length ds → d ≡ get_or ds i d → b ≡ noted a d.mark
    → o1 ≡ o ++ unwrap_or b d.mark.place.line ∷ [] → body ≡ d.fun.body → o2 ≡ o1 ++ lines b (tree body)
    → o ++ lines_of_defs a (all_defs (drop i ds)) ≡ goal → o2 ++ lines_of_defs a (all_defs (drop (i + 1) ds)) ≡ goal
defs_round o o1 o2 goal a b ds i d body within is inner own body_is step before =
    let rest : m.Defs = all_defs (drop (i + 1) ds) in
    next_round o o1 o2 goal (unwrap_or b d.mark.place.line ∷ []) (lines b (tree body)) (lines_of_defs a rest) (lines_of_defs a (all_defs (drop i ds))) own step
    (ap (lines_of_defs a) (all_defs-next ds i d within ∙ ap (λ x. m.and_def x.name x.mark x.fun.params (tree x.fun.body) rest) (sym is))
    ∙ ap (λ c. unwrap_or c d.mark.place.line ∷ (lines c (tree d.fun.body) ++ lines_of_defs a rest)) (sym inner) ∙ ap (λ x. unwrap_or b d.mark.place.line ∷ (lines b (tree x) ++ lines_of_defs a rest)) (sym body_is)) before

pub patterns_round : (o o1 goal : List ℕ) (a : Option ℕ) (ps : List Pattern) (i : ℕ) (x : Pattern) → i < length ps → x ≡ get_or ps i x → o1 ≡ o ++ lines_of_pattern a (pattern_tree x)
    → o ++ lines_of_patterns a (all_patterns (drop i ps)) ≡ goal → o1 ++ lines_of_patterns a (all_patterns (drop (i + 1) ps)) ≡ goal
patterns_round o o1 goal a ps i x within is step before =
    let rest : m.Patterns = all_patterns (drop (i + 1) ps) in
    round o o1 goal (lines_of_pattern a (pattern_tree x)) (lines_of_patterns a rest) (lines_of_patterns a (all_patterns (drop i ps))) step
    (ap (lines_of_patterns a) (all_patterns-next ps i x within ∙ ap (λ z. m.and_pattern (pattern_tree z) rest) (sym is))) before

pub pat_pairs_round : (o o1 o2 goal : List ℕ) (a : Option ℕ) (ps : List PatPair) (i : ℕ) (x : PatPair) → i < length ps → x ≡ get_or ps i x → o1 ≡ o ++ lines a (tree x.key)
    → o2 ≡ o1 ++ lines_of_pattern a (pattern_tree x.value)
    → o ++ lines_of_pat_pairs a (all_pat_pairs (drop i ps)) ≡ goal → o2 ++ lines_of_pat_pairs a (all_pat_pairs (drop (i + 1) ps)) ≡ goal
pat_pairs_round o o1 o2 goal a ps i x within is one two before =
    let rest : m.PatPairs = all_pat_pairs (drop (i + 1) ps) in
    next_round o o1 o2 goal (lines a (tree x.key)) (lines_of_pattern a (pattern_tree x.value)) (lines_of_pat_pairs a rest) (lines_of_pat_pairs a (all_pat_pairs (drop i ps))) one two
    (ap (lines_of_pat_pairs a) (all_pat_pairs-next ps i x within ∙ ap (λ z. let y = pat_pair_parts z in m.and_pat_pair y.key y.value rest) (sym is) ∙ ap (λ y. m.and_pat_pair y.key y.value rest) (pat_pair-is x))) before

pub pat_segments_round : (o o1 o2 goal : List ℕ) (a : Option ℕ) (ss : List PatSegment) (i : ℕ) (x : PatSegment) (args : List Expr) → i < length ss → x ≡ get_or ss i x
    → o1 ≡ o ++ lines_of_pattern a (pattern_tree (out-PatSegment x).value) → args ≡ (out-PatSegment x).args
    → o2 ≡ o1 ++ lines_of_all a (all_trees args)
    → o ++ lines_of_pat_segments a (all_pat_segments (drop i ss)) ≡ goal → o2 ++ lines_of_pat_segments a (all_pat_segments (drop (i + 1) ss)) ≡ goal
pat_segments_round o o1 o2 goal a ss i x args within is one args_are two before =
    let rest : m.PatSegments = all_pat_segments (drop (i + 1) ss) in
    next_round o o1 o2 goal (lines_of_pattern a (pattern_tree (out-PatSegment x).value)) (lines_of_all a (all_trees args)) (lines_of_pat_segments a rest) (lines_of_pat_segments a (all_pat_segments (drop i ss))) one two
    (ap (lines_of_pat_segments a) (all_pat_segments-next ss i x within ∙ ap (λ z. let y = pat_segment_parts z in m.and_pat_segment y.value y.args rest) (sym is) ∙ ap (λ y. m.and_pat_segment y.value y.args rest) (pat_segment-is x)
    ∙ ap (λ ts. m.and_pat_segment (pattern_tree (out-PatSegment x).value) (all_trees ts) rest) (sym args_are))) before
