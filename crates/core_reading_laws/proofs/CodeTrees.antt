-- Each tree of the model is that of a tree of the code.
use Rattle.std.proofs.Common.{◌≡◌, None, Some, List, [], ◌∷◌, refl, ap, ap₂, ◌∙◌}
use Rattle.core_ast.specs.declared.syntax.FunDefOf.{FunDefOf}
use Rattle.core_ast.specs.declared.syntax.StepOf.{StepOf}
use Rattle.core_ast.specs.declared.syntax.StepOf.TheVariants.{Let, Do}
use Rattle.core_ast.specs.declared.syntax.Module.{Module}
use Rattle.core_ast.specs.declared.syntax.Mark.{Mark}
use Rattle.core_ast.specs.declared.syntax.Expr.{Expr}
use Rattle.core_ast.specs.declared.syntax.Form.{Form}
use Rattle.core_ast.specs.declared.syntax.Form.TheVariants as f
use Rattle.core_ast.specs.declared.syntax.Clause.{Clause, roll-Clause}
use Rattle.core_ast.specs.declared.syntax.MapPair.{MapPair}
use Rattle.core_ast.specs.declared.syntax.PatPair.{PatPair}
use Rattle.core_ast.specs.declared.syntax.Segment.{Segment, roll-Segment}
use Rattle.core_ast.specs.declared.syntax.PatSegment.{PatSegment, roll-PatSegment}
use Rattle.core_ast.specs.declared.syntax.Pattern.{Pattern}
use Rattle.core_ast.specs.declared.syntax.PatForm.{PatForm}
use Rattle.core_ast.specs.declared.syntax.PatForm.TheVariants as p
use Rattle.core_ast.specs.Model as m
use Rattle.core_ast.specs.Tree.{ClauseParts, PairParts, PatPairParts, SegmentParts, PatSegmentParts, form_tree, tree, pat_form_tree, pattern_tree}
use Rattle.core_ast.specs.Tree.{all_trees, all_patterns, all_clauses, all_pairs, all_pat_pairs, all_segments, all_pat_segments, all_steps, all_defs, module_tree}
use Rattle.core_ast.proofs.Trees.{tree-is, pattern_tree-is, tree-Var, tree-Local, tree-External, tree-Lit, tree-Fun, tree-Listed, tree-Tuple, tree-Map-new, tree-Map-updated}
use Rattle.core_ast.proofs.Trees.{tree-Binary, tree-Values, tree-Case, tree-Apply, tree-Call, tree-Primop, tree-Try, tree-Receive, tree-Catch, tree-Chain, tree-Letrec}
use Rattle.core_ast.proofs.Trees.{pattern-Var, pattern-Lit, pattern-Listed, pattern-Tuple, pattern-Map, pattern-Binary, pattern-Alias, pair-is, pat_pair-is, clause-made, segment-made, pat_segment-made}

of_form : (t : m.Tree) (x : Form) (k : Mark) → form_tree x k ≡ t → (e : Expr) × (tree e ≡ t)
of_form t x k is = let e : Expr = record { mark = k; form = x } in (e, tree-is e ∙ is)

of_pattern_form : (t : m.Pattern) (x : PatForm) (k : Mark) → pat_form_tree x k ≡ t → (e : Pattern) × (pattern_tree e ≡ t)
of_pattern_form t x k is = let e : Pattern = record { mark = k; form = x } in (e, pattern_tree-is e ∙ is)

mutual
  pub some_tree : (t : m.Tree) → (e : Expr) × (tree e ≡ t)
  some_tree (m.variable k x) = of_form (m.variable k x) (f.Var x) k (tree-Var x k)
  some_tree (m.local k x) = of_form (m.local k x) (f.Local x) k (tree-Local x k)
  some_tree (m.external k x y) = of_form (m.external k x y) (f.External x y) k (tree-External x y k)
  some_tree (m.literal k x) = of_form (m.literal k x) (f.Lit x) k (tree-Lit x k)
  some_tree (m.function k xs t) = let e = some_tree t in of_form (m.function k xs t) (f.Fun (record { params = xs; body = e.0 })) k (tree-Fun _ k ∙ ap (m.function k xs) e.1)
  some_tree (m.listed k ts t) = let es = some_trees ts in let e = some_tree t in of_form (m.listed k ts t) (f.Listed es.0 e.0) k (tree-Listed es.0 e.0 k ∙ ap₂ (m.listed k) es.1 e.1)
  some_tree (m.tuple k ts) = let es = some_trees ts in of_form (m.tuple k ts) (f.Tuple es.0) k (tree-Tuple es.0 k ∙ ap (m.tuple k) es.1)
  some_tree (m.new_map k ps) = let es = some_pairs ps in of_form (m.new_map k ps) (f.Map es.0 None) k (tree-Map-new es.0 k ∙ ap (m.new_map k) es.1)
  some_tree (m.updated_map k ps t) = let es = some_pairs ps in let e = some_tree t in of_form (m.updated_map k ps t) (f.Map es.0 (Some e.0)) k (tree-Map-updated es.0 e.0 k ∙ ap₂ (m.updated_map k) es.1 e.1)
  some_tree (m.binary k ss) = let es = some_segments ss in of_form (m.binary k ss) (f.Binary es.0) k (tree-Binary es.0 k ∙ ap (m.binary k) es.1)
  some_tree (m.values k ts) = let es = some_trees ts in of_form (m.values k ts) (f.Values es.0) k (tree-Values es.0 k ∙ ap (m.values k) es.1)
  some_tree (m.chain k ss t) = let es = some_steps ss in let e = some_tree t in of_form (m.chain k ss t) (f.Chain es.0 e.0) k (tree-Chain es.0 e.0 k ∙ ap₂ (m.chain k) es.1 e.1)
  some_tree (m.case k t cs) = let e = some_tree t in let es = some_clauses cs in of_form (m.case k t cs) (f.Case e.0 es.0) k (tree-Case e.0 es.0 k ∙ ap₂ (m.case k) e.1 es.1)
  some_tree (m.letrec k ds t) = let es = some_defs ds in let e = some_tree t in of_form (m.letrec k ds t) (f.Letrec es.0 e.0) k (tree-Letrec es.0 e.0 k ∙ ap₂ (m.letrec k) es.1 e.1)
  some_tree (m.apply k t ts) = let e = some_tree t in let es = some_trees ts in of_form (m.apply k t ts) (f.Apply e.0 es.0) k (tree-Apply e.0 es.0 k ∙ ap₂ (m.apply k) e.1 es.1)
  some_tree (m.call k t u ts) =
      let e = some_tree t in
      let g = some_tree u in
      let es = some_trees ts in
      of_form (m.call k t u ts) (f.Call e.0 g.0 es.0) k (tree-Call e.0 g.0 es.0 k ∙ ap (λ x. m.call k x (tree g.0) (all_trees es.0)) e.1 ∙ ap₂ (m.call k t) g.1 es.1)
  some_tree (m.primop k x ts) = let es = some_trees ts in of_form (m.primop k x ts) (f.Primop x es.0) k (tree-Primop x es.0 k ∙ ap (m.primop k x) es.1)
  some_tree (m.try k t xs u ys w) =
      let e = some_tree t in
      let g = some_tree u in
      let h = some_tree w in
      of_form (m.try k t xs u ys w) (f.Try (record { arg = e.0; vars = xs; body = g.0; catch_vars = ys; handler = h.0 })) k
      (tree-Try _ k ∙ ap (λ x. m.try k x xs (tree g.0) ys (tree h.0)) e.1 ∙ ap₂ (λ x y. m.try k t xs x ys y) g.1 h.1)
  some_tree (m.receive k cs t u) =
      let es = some_clauses cs in
      let e = some_tree t in
      let g = some_tree u in
      of_form (m.receive k cs t u) (f.Receive es.0 e.0 g.0) k (tree-Receive es.0 e.0 g.0 k ∙ ap (λ x. m.receive k x (tree e.0) (tree g.0)) es.1 ∙ ap₂ (m.receive k cs) e.1 g.1)
  some_tree (m.catch k t) = let e = some_tree t in of_form (m.catch k t) (f.Catch e.0) k (tree-Catch e.0 k ∙ ap (m.catch k) e.1)

  some_trees : (ts : m.Trees) → (es : List Expr) × (all_trees es ≡ ts)
  some_trees m.no_tree = ([], refl)
  some_trees (m.and_tree t ts) = let e = some_tree t in let es = some_trees ts in (e.0 ∷ es.0, ap₂ m.and_tree e.1 es.1)

  some_pairs : (ps : m.Pairs) → (es : List MapPair) × (all_pairs es ≡ ps)
  some_pairs m.no_pair = ([], refl)
  some_pairs (m.and_pair exact t u ps) =
      let e = some_tree t in
      let g = some_tree u in
      let es = some_pairs ps in
      let c : MapPair = record { exact = exact; key = e.0; value = g.0 } in
      (c ∷ es.0, ap (λ (x : PairParts). m.and_pair x.exact x.key x.value (all_pairs es.0)) (pair-is c) ∙ ap₂ (λ x y. m.and_pair exact x y (all_pairs es.0)) e.1 g.1 ∙ ap (m.and_pair exact t u) es.1)

  some_segments : (ss : m.Segments) → (es : List Segment) × (all_segments es ≡ ss)
  some_segments m.no_segment = ([], refl)
  some_segments (m.and_segment t ts ss) =
      let e = some_tree t in
      let gs = some_trees ts in
      let es = some_segments ss in (
        roll-Segment (record { value = e.0; args = gs.0 }) ∷ es.0,
        ap (λ (x : SegmentParts). m.and_segment x.value x.args (all_segments es.0)) (segment-made (record { value = e.0; args = gs.0 })) ∙ ap₂ (λ x y. m.and_segment x y (all_segments es.0)) e.1 gs.1 ∙ ap (m.and_segment t ts) es.1,
      )

  some_steps : (ss : m.Steps) → (es : List (StepOf Expr)) × (all_steps es ≡ ss)
  some_steps m.no_step = ([], refl)
  some_steps (m.and_let k xs t ss) = let e = some_tree t in let es = some_steps ss in (Let k xs e.0 ∷ es.0, ap₂ (m.and_let k xs) e.1 es.1)
  some_steps (m.and_do k t ss) = let e = some_tree t in let es = some_steps ss in (Do k e.0 ∷ es.0, ap₂ (m.and_do k) e.1 es.1)

  some_clauses : (cs : m.Clauses) → (es : List Clause) × (all_clauses es ≡ cs)
  some_clauses m.no_clause = ([], refl)
  some_clauses (m.and_clause k ps t u cs) =
      let qs = some_patterns ps in
      let e = some_tree t in
      let g = some_tree u in
      let es = some_clauses cs in (
        roll-Clause (record { mark = k; patterns = qs.0; guard = e.0; body = g.0 }) ∷ es.0,
        ap (λ (x : ClauseParts). m.and_clause x.mark x.patterns x.guard x.body (all_clauses es.0)) (clause-made (record { mark = k; patterns = qs.0; guard = e.0; body = g.0 }))
            ∙ ap (λ x. m.and_clause k x (tree e.0) (tree g.0) (all_clauses es.0)) qs.1 ∙ ap₂ (λ x y. m.and_clause k ps x y (all_clauses es.0)) e.1 g.1 ∙ ap (m.and_clause k ps t u) es.1,
      )

  some_defs : (ds : m.Defs) → (es : List (FunDefOf Expr)) × (all_defs es ≡ ds)
  some_defs m.no_def = ([], refl)
  some_defs (m.and_def x k xs t ds) =
      let e = some_tree t in
      let es = some_defs ds in
      (record { name = x; mark = k; fun = record { params = xs; body = e.0 } } ∷ es.0, ap₂ (m.and_def x k xs) e.1 es.1)

  pub some_pattern : (t : m.Pattern) → (e : Pattern) × (pattern_tree e ≡ t)
  some_pattern (m.binds k x) = of_pattern_form (m.binds k x) (p.Var x) k (pattern-Var x k)
  some_pattern (m.equals k x) = of_pattern_form (m.equals k x) (p.Lit x) k (pattern-Lit x k)
  some_pattern (m.list_of k ts t) = let es = some_patterns ts in let e = some_pattern t in of_pattern_form (m.list_of k ts t) (p.Listed es.0 e.0) k (pattern-Listed es.0 e.0 k ∙ ap₂ (m.list_of k) es.1 e.1)
  some_pattern (m.tuple_of k ts) = let es = some_patterns ts in of_pattern_form (m.tuple_of k ts) (p.Tuple es.0) k (pattern-Tuple es.0 k ∙ ap (m.tuple_of k) es.1)
  some_pattern (m.map_of k ps) = let es = some_pat_pairs ps in of_pattern_form (m.map_of k ps) (p.Map es.0) k (pattern-Map es.0 k ∙ ap (m.map_of k) es.1)
  some_pattern (m.binary_of k ss) = let es = some_pat_segments ss in of_pattern_form (m.binary_of k ss) (p.Binary es.0) k (pattern-Binary es.0 k ∙ ap (m.binary_of k) es.1)
  some_pattern (m.alias k x t) = let e = some_pattern t in of_pattern_form (m.alias k x t) (p.Alias x e.0) k (pattern-Alias x e.0 k ∙ ap (m.alias k x) e.1)

  some_patterns : (ts : m.Patterns) → (es : List Pattern) × (all_patterns es ≡ ts)
  some_patterns m.no_pattern = ([], refl)
  some_patterns (m.and_pattern t ts) = let e = some_pattern t in let es = some_patterns ts in (e.0 ∷ es.0, ap₂ m.and_pattern e.1 es.1)

  some_pat_pairs : (ps : m.PatPairs) → (es : List PatPair) × (all_pat_pairs es ≡ ps)
  some_pat_pairs m.no_pat_pair = ([], refl)
  some_pat_pairs (m.and_pat_pair t u ps) =
      let e = some_tree t in
      let g = some_pattern u in
      let es = some_pat_pairs ps in
      let c : PatPair = record { key = e.0; value = g.0 } in
      (c ∷ es.0, ap (λ (x : PatPairParts). m.and_pat_pair x.key x.value (all_pat_pairs es.0)) (pat_pair-is c) ∙ ap₂ (λ x y. m.and_pat_pair x y (all_pat_pairs es.0)) e.1 g.1 ∙ ap (m.and_pat_pair t u) es.1)

  some_pat_segments : (ss : m.PatSegments) → (es : List PatSegment) × (all_pat_segments es ≡ ss)
  some_pat_segments m.no_pat_segment = ([], refl)
  some_pat_segments (m.and_pat_segment t ts ss) =
      let e = some_pattern t in
      let gs = some_trees ts in
      let es = some_pat_segments ss in (
        roll-PatSegment (record { value = e.0; args = gs.0 }) ∷ es.0,
        ap (λ (x : PatSegmentParts). m.and_pat_segment x.value x.args (all_pat_segments es.0)) (pat_segment-made (record { value = e.0; args = gs.0 })) ∙ ap₂ (λ x y. m.and_pat_segment x y (all_pat_segments es.0)) e.1 gs.1
            ∙ ap (m.and_pat_segment t ts) es.1,
      )

pub some_module : (x : m.Module) → (c : Module) × (module_tree c ≡ x)
some_module x =
    let ds = some_defs x.defs in
    (record { name = x.name; exports = x.exports; export_places = x.export_places; defs = ds.0; note = x.note }, ap (λ d. record x { defs = d }) ds.1)
