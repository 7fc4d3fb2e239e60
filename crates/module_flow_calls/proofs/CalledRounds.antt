-- The walk for calls by literal names: what each round of its loops keeps.
use Rattle.std.proofs.Common.{◌≡◌, ℕ, ◌+◌, ◌<◌, List, ◌∷◌, ◌++◌, length, drop, get_or, refl, sym, ap, ◌∙◌}
use Rattle.type_kinds.specs.declared.atom.Atom.{Atom}
use Rattle.core_ast.specs.declared.syntax.FunName.{FunName}
use Rattle.core_ast.specs.declared.syntax.Expr.{Expr}
use Rattle.core_ast.specs.declared.syntax.Pattern.{Pattern}
use Rattle.core_ast.specs.declared.syntax.Clause.{Clause, out-Clause}
use Rattle.core_ast.specs.declared.syntax.MapPair.{MapPair}
use Rattle.core_ast.specs.declared.syntax.PatPair.{PatPair}
use Rattle.core_ast.specs.declared.syntax.Segment.{Segment, out-Segment}
use Rattle.core_ast.specs.declared.syntax.PatSegment.{PatSegment, out-PatSegment}
use Rattle.core_ast.specs.declared.syntax.FunDefOf.{FunDefOf}
use Rattle.core_ast.specs.declared.syntax.StepOf.{StepOf}
use Rattle.core_ast.specs.declared.syntax.StepOf.TheVariants.{Let, Do}
use Rattle.core_ast.specs.Model as m
use Rattle.core_ast.specs.Tree.{tree, pattern_tree, clause_parts, pair_parts, pat_pair_parts, segment_parts, pat_segment_parts, all_trees}
use Rattle.core_ast.specs.Tree.{all_patterns, all_pairs, all_pat_pairs, all_segments, all_pat_segments, all_steps, all_clauses, all_defs}
use Rattle.core_ast.proofs.Trees.{clause-is, pair-is, segment-is, pat_pair-is, pat_segment-is}
use Rattle.core_ast.proofs.Items.{all_trees-next, all_patterns-next, all_pairs-next, all_pat_pairs-next, all_segments-next, all_pat_segments-next, all_steps-next, all_clauses-next, all_defs-next}
use Rattle.cons_tree.specs.declared.parts.Callee.{Callee}
use Rattle.module_flow_calls.specs.declared.node_context.NodeContext.{NodeContext}
use Rattle.module_flow_calls.specs.declared.unknown.NamingWalk.{NamingWalk}
use Rattle.module_flow_calls.specs.NodeContext.{under}
use Rattle.module_flow_calls.specs.Unknown.{Naming, namings, all_namings, pair_namings, segment_namings, step_namings, clause_namings, def_namings, pattern_namings, patterns_namings, pat_pair_namings, pat_segment_namings}
use Rattle.module_flow_calls.specs.steps.FirstCalls.{Notes, Leads, step_expression}
use Rattle.module_flow_calls.specs.steps.Notes.{step_note}
use Rattle.module_flow_calls.proofs.FirstCalls.{notes_then, round}

module _ (k : Atom → FunName → Callee) (a : NodeContext) (w w1 first : NamingWalk) (whole : List Naming) where
  pub all_round : (es : List Expr) (i : ℕ) (e : Expr) → i < length es → e ≡ get_or es i e → Notes k w w1 (namings a (tree e)) → Leads k w (all_namings a (all_trees (drop i es))) first whole
      → Leads k w1 (all_namings a (all_trees (drop (i + 1) es))) first whole
  all_round es i e within is step =
      let rest : m.Trees = all_trees (drop (i + 1) es) in
      round k w w1 first (namings a (tree e)) (all_namings a rest) (all_namings a (all_trees (drop i es))) whole step (ap (all_namings a) (all_trees-next es i e within ∙ ap (λ x. m.and_tree (tree x) rest) (sym is)))

  pub defs_round : (b : NodeContext) (ds : List (FunDefOf Expr)) (i : ℕ) (d d1 : FunDefOf Expr) (body : Expr) → i < length ds → d ≡ get_or ds i d → d1 ≡ d → b ≡ under a d1.mark.note → body ≡ d1.fun.body
      → Notes k w w1 (namings b (tree body)) → Leads k w (def_namings a (all_defs (drop i ds))) first whole
      → Leads k w1 (def_namings a (all_defs (drop (i + 1) ds))) first whole
  defs_round b ds i d d1 body within is same inner body_is step =
      let rest : m.Defs = all_defs (drop (i + 1) ds) in
      round k w w1 first (namings b (tree body)) (def_namings a rest) (def_namings a (all_defs (drop i ds))) whole step
      (ap (def_namings a) (all_defs-next ds i d within ∙ ap (λ x. m.and_def x.name x.mark x.fun.params (tree x.fun.body) rest) (sym is)) ∙ ap (λ x. namings (under a x.mark.note) (tree x.fun.body) ++ def_namings a rest) (sym same)
      ∙ ap (λ x. namings x (tree d1.fun.body) ++ def_namings a rest) (sym inner) ∙ ap (λ x. namings b (tree x) ++ def_namings a rest) (sym body_is))

  pub patterns_round : (ps : List Pattern) (i : ℕ) (x : Pattern) → i < length ps → x ≡ get_or ps i x → Notes k w w1 (pattern_namings a (pattern_tree x)) → Leads k w (patterns_namings a (all_patterns (drop i ps))) first whole
      → Leads k w1 (patterns_namings a (all_patterns (drop (i + 1) ps))) first whole
  patterns_round ps i x within is step =
      let rest : m.Patterns = all_patterns (drop (i + 1) ps) in
      round k w w1 first (pattern_namings a (pattern_tree x)) (patterns_namings a rest) (patterns_namings a (all_patterns (drop i ps))) whole step
      (ap (patterns_namings a) (all_patterns-next ps i x within ∙ ap (λ z. m.and_pattern (pattern_tree z) rest) (sym is)))

  step_first : (x : StepOf Expr) (rest : List (StepOf Expr)) → step_namings a (all_steps (x ∷ rest)) ≡ namings (under a (step_note x)) (tree (step_expression x)) ++ step_namings (under a (step_note x)) (all_steps rest)
  step_first (Let i xs e) rest = refl
  step_first (Do i e) rest = refl

  pub steps_round : (a1 : NodeContext) (ss : List (StepOf Expr)) (i : ℕ) (x : StepOf Expr) (e : Expr) → i < length ss → x ≡ get_or ss i x → e ≡ step_expression x → a1 ≡ under a (step_note x)
      → Notes k w w1 (namings a1 (tree e))
      → Leads k w (step_namings a (all_steps (drop i ss))) first whole → Leads k w1 (step_namings a1 (all_steps (drop (i + 1) ss))) first whole
  steps_round a1 ss i x e within is own inner step =
      let rest : List (StepOf Expr) = drop (i + 1) ss in
      round k w w1 first (namings a1 (tree e)) (step_namings a1 (all_steps rest)) (step_namings a (all_steps (drop i ss))) whole step
      (ap (step_namings a) (all_steps-next ss i x within ∙ ap (λ z. all_steps (z ∷ rest)) (sym is)) ∙ step_first x rest
      ∙ ap (λ b. namings b (tree (step_expression x)) ++ step_namings b (all_steps rest)) (sym inner) ∙ ap (λ z. namings a1 (tree z) ++ step_namings a1 (all_steps rest)) (sym own))

  module _ (w2 : NamingWalk) where
    pub pairs_round : (ps : List MapPair) (i : ℕ) (p : MapPair) → i < length ps → p ≡ get_or ps i p → Notes k w w1 (namings a (tree p.key)) → Notes k w1 w2 (namings a (tree p.value))
        → Leads k w (pair_namings a (all_pairs (drop i ps))) first whole
        → Leads k w2 (pair_namings a (all_pairs (drop (i + 1) ps))) first whole
    pairs_round ps i p within is one two =
        let rest : m.Pairs = all_pairs (drop (i + 1) ps) in
        round k w w2 first (namings a (tree p.key) ++ namings a (tree p.value)) (pair_namings a rest) (pair_namings a (all_pairs (drop i ps))) whole
        (notes_then k w w1 w2 (namings a (tree p.key)) (namings a (tree p.value)) one two)
        (ap (pair_namings a) (all_pairs-next ps i p within ∙ ap (λ x. let y = pair_parts x in m.and_pair y.exact y.key y.value rest) (sym is) ∙ ap (λ y. m.and_pair y.exact y.key y.value rest) (pair-is p)))

    pub pat_pairs_round : (ps : List PatPair) (i : ℕ) (x : PatPair) → i < length ps → x ≡ get_or ps i x → Notes k w w1 (namings a (tree x.key)) → Notes k w1 w2 (pattern_namings a (pattern_tree x.value))
        → Leads k w (pat_pair_namings a (all_pat_pairs (drop i ps))) first whole → Leads k w2 (pat_pair_namings a (all_pat_pairs (drop (i + 1) ps))) first whole
    pat_pairs_round ps i x within is one two =
        let rest : m.PatPairs = all_pat_pairs (drop (i + 1) ps) in
        round k w w2 first (namings a (tree x.key) ++ pattern_namings a (pattern_tree x.value)) (pat_pair_namings a rest) (pat_pair_namings a (all_pat_pairs (drop i ps))) whole
        (notes_then k w w1 w2 (namings a (tree x.key)) (pattern_namings a (pattern_tree x.value)) one two)
        (ap (pat_pair_namings a) (all_pat_pairs-next ps i x within ∙ ap (λ z. let y = pat_pair_parts z in m.and_pat_pair y.key y.value rest) (sym is) ∙ ap (λ y. m.and_pat_pair y.key y.value rest) (pat_pair-is x)))

    pub segments_round : (ss : List Segment) (i : ℕ) (x : Segment) (args : List Expr) → i < length ss → x ≡ get_or ss i x → Notes k w w1 (namings a (tree (out-Segment x).value)) → args ≡ (out-Segment x).args
        → Notes k w1 w2 (all_namings a (all_trees args))
        → Leads k w (segment_namings a (all_segments (drop i ss))) first whole → Leads k w2 (segment_namings a (all_segments (drop (i + 1) ss))) first whole
    segments_round ss i x args within is one args_are two =
        let rest : m.Segments = all_segments (drop (i + 1) ss) in
        round k w w2 first (namings a (tree (out-Segment x).value) ++ all_namings a (all_trees args)) (segment_namings a rest) (segment_namings a (all_segments (drop i ss))) whole
        (notes_then k w w1 w2 (namings a (tree (out-Segment x).value)) (all_namings a (all_trees args)) one two)
        (ap (segment_namings a) (all_segments-next ss i x within ∙ ap (λ z. let y = segment_parts z in m.and_segment y.value y.args rest) (sym is) ∙ ap (λ y. m.and_segment y.value y.args rest) (segment-is x)
        ∙ ap (λ ts. m.and_segment (tree (out-Segment x).value) (all_trees ts) rest) (sym args_are)))

    pub pat_segments_round : (ss : List PatSegment) (i : ℕ) (x : PatSegment) (args : List Expr) → i < length ss → x ≡ get_or ss i x → Notes k w w1 (pattern_namings a (pattern_tree (out-PatSegment x).value))
        → args ≡ (out-PatSegment x).args
        → Notes k w1 w2 (all_namings a (all_trees args)) → Leads k w (pat_segment_namings a (all_pat_segments (drop i ss))) first whole → Leads k w2 (pat_segment_namings a (all_pat_segments (drop (i + 1) ss))) first whole
    pat_segments_round ss i x args within is one args_are two =
        let rest : m.PatSegments = all_pat_segments (drop (i + 1) ss) in
        round k w w2 first (pattern_namings a (pattern_tree (out-PatSegment x).value) ++ all_namings a (all_trees args)) (pat_segment_namings a rest) (pat_segment_namings a (all_pat_segments (drop i ss))) whole
        (notes_then k w w1 w2 (pattern_namings a (pattern_tree (out-PatSegment x).value)) (all_namings a (all_trees args)) one two)
        (ap (pat_segment_namings a) (all_pat_segments-next ss i x within ∙ ap (λ z. let y = pat_segment_parts z in m.and_pat_segment y.value y.args rest) (sym is) ∙ ap (λ y. m.and_pat_segment y.value y.args rest) (pat_segment-is x)
        ∙ ap (λ ts. m.and_pat_segment (pattern_tree (out-PatSegment x).value) (all_trees ts) rest) (sym args_are)))

    module _ (w3 : NamingWalk) where
      pub clauses_round : (b : NodeContext) (cs : List Clause) (i : ℕ) (c : Clause) (ps : List Pattern) → i < length cs → c ≡ get_or cs i c → b ≡ under a (out-Clause c).mark.note → ps ≡ (out-Clause c).patterns
          → Notes k w w1 (patterns_namings b (all_patterns ps))
          → Notes k w1 w2 (namings b (tree (out-Clause c).guard)) → Notes k w2 w3 (namings b (tree (out-Clause c).body))
          → Leads k w (clause_namings a (all_clauses (drop i cs))) first whole → Leads k w3 (clause_namings a (all_clauses (drop (i + 1) cs))) first whole
      clauses_round b cs i c ps within is inner ps_are one two three =
          let rest : m.Clauses = all_clauses (drop (i + 1) cs) in
          let guard : m.Tree = tree (out-Clause c).guard in
          let body : m.Tree = tree (out-Clause c).body in
          round k w w3 first (patterns_namings b (all_patterns ps) ++ namings b guard ++ namings b body) (clause_namings a rest) (clause_namings a (all_clauses (drop i cs))) whole
          (notes_then k w w2 w3 (patterns_namings b (all_patterns ps) ++ namings b guard) (namings b body) (notes_then k w w1 w2 (patterns_namings b (all_patterns ps)) (namings b guard) one two) three)
          (ap (clause_namings a) (all_clauses-next cs i c within ∙ ap (λ x. let y = clause_parts x in m.and_clause y.mark y.patterns y.guard y.body rest) (sym is)
          ∙ ap (λ y. m.and_clause y.mark y.patterns y.guard y.body rest) (clause-is c)
          ∙ ap (λ qs. m.and_clause (out-Clause c).mark (all_patterns qs) guard body rest) (sym ps_are))
          ∙ ap (λ z. patterns_namings z (all_patterns ps) ++ namings z guard ++ namings z body ++ clause_namings a rest) (sym inner))
