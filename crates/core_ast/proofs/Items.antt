-- The lists of the model: the next item of what is left, and how many items there are.
use Rattle.std.proofs.Common.{◌≡◌, ℕ, ◌+◌, ◌<◌, List, [], ◌∷◌, length, drop, get_or, map, refl, ap, ◌∙◌, add-one}
use Rattle.std.proofs.lemmas.List.{drop_more}
use Rattle.core_ast.specs.declared.syntax.FunDefOf.{FunDefOf}
use Rattle.core_ast.specs.declared.syntax.StepOf.{StepOf}
use Rattle.core_ast.specs.declared.syntax.Expr.{Expr}
use Rattle.core_ast.specs.declared.syntax.Clause.{Clause}
use Rattle.core_ast.specs.declared.syntax.MapPair.{MapPair}
use Rattle.core_ast.specs.declared.syntax.PatPair.{PatPair}
use Rattle.core_ast.specs.declared.syntax.Segment.{Segment}
use Rattle.core_ast.specs.declared.syntax.PatSegment.{PatSegment}
use Rattle.core_ast.specs.declared.syntax.Pattern.{Pattern}
use Rattle.core_ast.specs.Model as m
use Rattle.core_ast.specs.Tree.{steps, tree, pattern_tree, clause_parts, pair_parts, pat_pair_parts, segment_parts, pat_segment_parts, step_tree}
use Rattle.core_ast.specs.Tree.{all_trees, all_patterns, all_clauses, all_pairs, all_pat_pairs, all_segments, all_pat_segments, all_steps, all_defs}
use Rattle.core_ast.specs.Lengths.{how_many, how_many_patterns}

pub all_trees-next : (es : List Expr) (i : ℕ) (d : Expr) → i < length es → all_trees (drop i es) ≡ m.and_tree (tree (get_or es i d)) (all_trees (drop (i + 1) es))
all_trees-next es i d within = ap all_trees (drop_more es i d within)

pub all_patterns-next : (ps : List Pattern) (i : ℕ) (d : Pattern) → i < length ps → all_patterns (drop i ps) ≡ m.and_pattern (pattern_tree (get_or ps i d)) (all_patterns (drop (i + 1) ps))
all_patterns-next ps i d within = ap all_patterns (drop_more ps i d within)

pub all_clauses-next : (cs : List Clause) (i : ℕ) (d : Clause) → i < length cs → all_clauses (drop i cs) ≡ (let c = clause_parts (get_or cs i d) in m.and_clause c.mark c.patterns c.guard c.body (all_clauses (drop (i + 1) cs)))
all_clauses-next cs i d within = ap all_clauses (drop_more cs i d within)

pub all_pairs-next : (ps : List MapPair) (i : ℕ) (d : MapPair) → i < length ps → all_pairs (drop i ps) ≡ (let p = pair_parts (get_or ps i d) in m.and_pair p.exact p.key p.value (all_pairs (drop (i + 1) ps)))
all_pairs-next ps i d within = ap all_pairs (drop_more ps i d within)

pub all_pat_pairs-next : (ps : List PatPair) (i : ℕ) (d : PatPair) → i < length ps → all_pat_pairs (drop i ps) ≡ (let p = pat_pair_parts (get_or ps i d) in m.and_pat_pair p.key p.value (all_pat_pairs (drop (i + 1) ps)))
all_pat_pairs-next ps i d within = ap all_pat_pairs (drop_more ps i d within)

pub all_segments-next : (ss : List Segment) (i : ℕ) (d : Segment) → i < length ss → all_segments (drop i ss) ≡ (let s = segment_parts (get_or ss i d) in m.and_segment s.value s.args (all_segments (drop (i + 1) ss)))
all_segments-next ss i d within = ap all_segments (drop_more ss i d within)

pub all_pat_segments-next : (ss : List PatSegment) (i : ℕ) (d : PatSegment) → i < length ss
    → all_pat_segments (drop i ss) ≡ (let s = pat_segment_parts (get_or ss i d) in m.and_pat_segment s.value s.args (all_pat_segments (drop (i + 1) ss)))
all_pat_segments-next ss i d within = ap all_pat_segments (drop_more ss i d within)

pub all_steps-next : (ss : List (StepOf Expr)) (i : ℕ) (d : StepOf Expr) → i < length ss → all_steps (drop i ss) ≡ steps (step_tree (get_or ss i d) ∷ map step_tree (drop (i + 1) ss))
all_steps-next ss i d within = ap all_steps (drop_more ss i d within)

pub all_defs-next : (ds : List (FunDefOf Expr)) (i : ℕ) (d : FunDefOf Expr) → i < length ds → all_defs (drop i ds) ≡ (let x = get_or ds i d in m.and_def x.name x.mark x.fun.params (tree x.fun.body) (all_defs (drop (i + 1) ds)))
all_defs-next ds i d within = ap all_defs (drop_more ds i d within)

-- How many items there are.
pub how_many-length : (es : List Expr) → how_many (all_trees es) ≡ length es
how_many-length [] = refl
how_many-length (e ∷ es) = ap (λ n. n + 1) (how_many-length es) ∙ add-one (length es)

pub how_many_patterns-length : (ps : List Pattern) → how_many_patterns (all_patterns ps) ≡ length ps
how_many_patterns-length [] = refl
how_many_patterns-length (p ∷ ps) = ap (λ n. n + 1) (how_many_patterns-length ps) ∙ add-one (length ps)
