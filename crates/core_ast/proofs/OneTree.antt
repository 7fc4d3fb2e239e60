-- An expression is known by its tree: two that have one tree are one. So too of patterns and definitions.
use Rattle.std.proofs.Common.{◌≡◌, List, [], ◌∷◌, Some, None, refl, sym, ap, ◌∙◌}
use Rattle.core_ast.specs.declared.syntax.FunDefOf.{FunDefOf}
use Rattle.core_ast.specs.declared.syntax.StepOf.{StepOf}
use Rattle.core_ast.specs.declared.syntax.StepOf.TheVariants.{Let, Do}
use Rattle.core_ast.specs.declared.syntax.Expr.{Expr}
use Rattle.core_ast.specs.declared.syntax.Clause.{Clause, out-Clause, roll-Clause, roll-out-Clause}
use Rattle.core_ast.specs.declared.syntax.MapPair.{MapPair}
use Rattle.core_ast.specs.declared.syntax.PatPair.{PatPair}
use Rattle.core_ast.specs.declared.syntax.Segment.{Segment, out-Segment, roll-Segment, roll-out-Segment}
use Rattle.core_ast.specs.declared.syntax.PatSegment.{PatSegment, out-PatSegment, roll-PatSegment, roll-out-PatSegment}
use Rattle.core_ast.specs.declared.syntax.Pattern.{Pattern}
use Rattle.core_ast.specs.declared.syntax.PatForm.TheVariants as p
use Rattle.core_ast.specs.declared.syntax.Form.TheVariants as f
use Rattle.core_ast.specs.Model as m
use Rattle.core_ast.specs.Tree.{ClauseParts, PairParts, PatPairParts, SegmentParts, PatSegmentParts, tree, pattern_tree, clause_parts, pair_parts, pat_pair_parts, segment_parts}
use Rattle.core_ast.specs.Tree.{pat_segment_parts, def_tree, all_trees, all_patterns, all_clauses, all_pairs, all_pat_pairs, all_segments, all_pat_segments, all_steps, all_defs}
use Rattle.core_ast.proofs.Trees.{clause-is, pair-is, pat_pair-is, segment-is, pat_segment-is}
use Rattle.core_ast.proofs.Forms.{opened, opened_pattern}

-- two values are one that are equal to values that are one
between : {X : Type 0} (a b x y : X) → a ≡ x → b ≡ y → x ≡ y → a ≡ b
between a b x y is js same = is ∙ same ∙ sym js

node : (a b : Expr) → a.form ≡ b.form → a.mark ≡ b.mark → a ≡ b
node a b form mark = λ i. record { mark = mark i; form = form i }

pattern_node : (a b : Pattern) → a.form ≡ b.form → a.mark ≡ b.mark → a ≡ b
pattern_node a b form mark = λ i. record { mark = mark i; form = form i }

clause_of : (a b : Clause) → out-Clause a ≡ out-Clause b → a ≡ b
clause_of a b same = sym (roll-out-Clause a) ∙ ap roll-Clause same ∙ roll-out-Clause b

segment_of : (a b : Segment) → out-Segment a ≡ out-Segment b → a ≡ b
segment_of a b same = sym (roll-out-Segment a) ∙ ap roll-Segment same ∙ roll-out-Segment b

pat_segment_of : (a b : PatSegment) → out-PatSegment a ≡ out-PatSegment b → a ≡ b
pat_segment_of a b same = sym (roll-out-PatSegment a) ∙ ap roll-PatSegment same ∙ roll-out-PatSegment b

mutual
  one_tree : (t : m.Tree) (a b : Expr) → tree a ≡ t → tree b ≡ t → a ≡ b
  one_tree (m.variable k x) a b is js =
      let o = opened a (m.variable k x) is in let q = opened b (m.variable k x) js in
      node a b (o.0 ∙ sym q.0) (o.1 ∙ sym q.1)
  one_tree (m.local k x) a b is js =
      let o = opened a (m.local k x) is in let q = opened b (m.local k x) js in
      node a b (o.0 ∙ sym q.0) (o.1 ∙ sym q.1)
  one_tree (m.external k x y) a b is js =
      let o = opened a (m.external k x y) is in let q = opened b (m.external k x y) js in
      node a b (o.0 ∙ sym q.0) (o.1 ∙ sym q.1)
  one_tree (m.literal k x) a b is js =
      let o = opened a (m.literal k x) is in let q = opened b (m.literal k x) js in
      node a b (o.0 ∙ sym q.0) (o.1 ∙ sym q.1)
  one_tree (m.function k zs t) a b is js =
      let o = opened a (m.function k zs t) is in let q = opened b (m.function k zs t) js in
      node a b (between _ _ _ _ o.1 q.1 (λ i. f.Fun (record { params = (o.3 ∙ sym q.3) i; body = one_tree t o.0.body q.0.body o.4 q.4 i }))) (o.2 ∙ sym q.2)
  one_tree (m.listed k ts t) a b is js =
      let o = opened a (m.listed k ts t) is in let q = opened b (m.listed k ts t) js in
      node a b (between _ _ _ _ o.2 q.2 (λ i. f.Listed (one_trees ts o.0 q.0 o.4 q.4 i) (one_tree t o.1 q.1 o.5 q.5 i))) (o.3 ∙ sym q.3)
  one_tree (m.tuple k ts) a b is js =
      let o = opened a (m.tuple k ts) is in let q = opened b (m.tuple k ts) js in
      node a b (between _ _ _ _ o.1 q.1 (λ i. f.Tuple (one_trees ts o.0 q.0 o.3 q.3 i))) (o.2 ∙ sym q.2)
  one_tree (m.new_map k us) a b is js =
      let o = opened a (m.new_map k us) is in let q = opened b (m.new_map k us) js in
      node a b (between _ _ _ _ o.1 q.1 (λ i. f.Map (one_pairs us o.0 q.0 o.3 q.3 i) None)) (o.2 ∙ sym q.2)
  one_tree (m.updated_map k us t) a b is js =
      let o = opened a (m.updated_map k us t) is in let q = opened b (m.updated_map k us t) js in
      node a b (between _ _ _ _ o.2 q.2 (λ i. f.Map (one_pairs us o.0 q.0 o.4 q.4 i) (Some (one_tree t o.1 q.1 o.5 q.5 i)))) (o.3 ∙ sym q.3)
  one_tree (m.binary k us) a b is js =
      let o = opened a (m.binary k us) is in let q = opened b (m.binary k us) js in
      node a b (between _ _ _ _ o.1 q.1 (λ i. f.Binary (one_segments us o.0 q.0 o.3 q.3 i))) (o.2 ∙ sym q.2)
  one_tree (m.values k ts) a b is js =
      let o = opened a (m.values k ts) is in let q = opened b (m.values k ts) js in
      node a b (between _ _ _ _ o.1 q.1 (λ i. f.Values (one_trees ts o.0 q.0 o.3 q.3 i))) (o.2 ∙ sym q.2)
  one_tree (m.chain k us t) a b is js =
      let o = opened a (m.chain k us t) is in let q = opened b (m.chain k us t) js in
      node a b (between _ _ _ _ o.2 q.2 (λ i. f.Chain (one_steps us o.0 q.0 o.4 q.4 i) (one_tree t o.1 q.1 o.5 q.5 i))) (o.3 ∙ sym q.3)
  one_tree (m.case k t us) a b is js =
      let o = opened a (m.case k t us) is in let q = opened b (m.case k t us) js in
      node a b (between _ _ _ _ o.2 q.2 (λ i. f.Case (one_tree t o.0 q.0 o.4 q.4 i) (one_clauses us o.1 q.1 o.5 q.5 i))) (o.3 ∙ sym q.3)
  one_tree (m.letrec k us t) a b is js =
      let o = opened a (m.letrec k us t) is in let q = opened b (m.letrec k us t) js in
      node a b (between _ _ _ _ o.2 q.2 (λ i. f.Letrec (one_defs us o.0 q.0 o.4 q.4 i) (one_tree t o.1 q.1 o.5 q.5 i))) (o.3 ∙ sym q.3)
  one_tree (m.apply k t ts) a b is js =
      let o = opened a (m.apply k t ts) is in let q = opened b (m.apply k t ts) js in
      node a b (between _ _ _ _ o.2 q.2 (λ i. f.Apply (one_tree t o.0 q.0 o.4 q.4 i) (one_trees ts o.1 q.1 o.5 q.5 i))) (o.3 ∙ sym q.3)
  one_tree (m.call k t u ts) a b is js =
      let o = opened a (m.call k t u ts) is in let q = opened b (m.call k t u ts) js in
      node a b (between _ _ _ _ o.3 q.3 (λ i. f.Call (one_tree t o.0 q.0 o.5 q.5 i) (one_tree u o.1 q.1 o.6 q.6 i) (one_trees ts o.2 q.2 o.7 q.7 i))) (o.4 ∙ sym q.4)
  one_tree (m.primop k x ts) a b is js =
      let o = opened a (m.primop k x ts) is in let q = opened b (m.primop k x ts) js in
      node a b (between _ _ _ _ o.1 q.1 (λ i. f.Primop x (one_trees ts o.0 q.0 o.3 q.3 i))) (o.2 ∙ sym q.2)
  one_tree (m.try k t zs u vs w) a b is js =
      let o = opened a (m.try k t zs u vs w) is in let q = opened b (m.try k t zs u vs w) js in
      node a b (between _ _ _ _ o.1 q.1 (λ i. f.Try (record {
        arg = one_tree t o.0.arg q.0.arg o.3 q.3 i;
        vars = (o.4 ∙ sym q.4) i;
        body = one_tree u o.0.body q.0.body o.5 q.5 i;
        catch_vars = (o.6 ∙ sym q.6) i;
        handler = one_tree w o.0.handler q.0.handler o.7 q.7 i;
      }))) (o.2 ∙ sym q.2)
  one_tree (m.receive k us t u) a b is js =
      let o = opened a (m.receive k us t u) is in let q = opened b (m.receive k us t u) js in
      node a b (between _ _ _ _ o.3 q.3 (λ i. f.Receive (one_clauses us o.0 q.0 o.5 q.5 i) (one_tree t o.1 q.1 o.6 q.6 i) (one_tree u o.2 q.2 o.7 q.7 i))) (o.4 ∙ sym q.4)
  one_tree (m.catch k t) a b is js =
      let o = opened a (m.catch k t) is in let q = opened b (m.catch k t) js in
      node a b (between _ _ _ _ o.1 q.1 (λ i. f.Catch (one_tree t o.0 q.0 o.3 q.3 i))) (o.2 ∙ sym q.2)

  one_pattern : (t : m.Pattern) (a b : Pattern) → pattern_tree a ≡ t → pattern_tree b ≡ t → a ≡ b
  one_pattern (m.binds k x) a b is js =
      let o = opened_pattern a (m.binds k x) is in let q = opened_pattern b (m.binds k x) js in
      pattern_node a b (o.0 ∙ sym q.0) (o.1 ∙ sym q.1)
  one_pattern (m.equals k x) a b is js =
      let o = opened_pattern a (m.equals k x) is in let q = opened_pattern b (m.equals k x) js in
      pattern_node a b (o.0 ∙ sym q.0) (o.1 ∙ sym q.1)
  one_pattern (m.list_of k ts t) a b is js =
      let o = opened_pattern a (m.list_of k ts t) is in let q = opened_pattern b (m.list_of k ts t) js in
      pattern_node a b (between _ _ _ _ o.2 q.2 (λ i. p.Listed (one_patterns ts o.0 q.0 o.4 q.4 i) (one_pattern t o.1 q.1 o.5 q.5 i))) (o.3 ∙ sym q.3)
  one_pattern (m.tuple_of k ts) a b is js =
      let o = opened_pattern a (m.tuple_of k ts) is in let q = opened_pattern b (m.tuple_of k ts) js in
      pattern_node a b (between _ _ _ _ o.1 q.1 (λ i. p.Tuple (one_patterns ts o.0 q.0 o.3 q.3 i))) (o.2 ∙ sym q.2)
  one_pattern (m.map_of k us) a b is js =
      let o = opened_pattern a (m.map_of k us) is in let q = opened_pattern b (m.map_of k us) js in
      pattern_node a b (between _ _ _ _ o.1 q.1 (λ i. p.Map (one_pat_pairs us o.0 q.0 o.3 q.3 i))) (o.2 ∙ sym q.2)
  one_pattern (m.binary_of k us) a b is js =
      let o = opened_pattern a (m.binary_of k us) is in let q = opened_pattern b (m.binary_of k us) js in
      pattern_node a b (between _ _ _ _ o.1 q.1 (λ i. p.Binary (one_pat_segments us o.0 q.0 o.3 q.3 i))) (o.2 ∙ sym q.2)
  one_pattern (m.alias k x t) a b is js =
      let o = opened_pattern a (m.alias k x t) is in let q = opened_pattern b (m.alias k x t) js in
      pattern_node a b (between _ _ _ _ o.1 q.1 (λ i. p.Alias x (one_pattern t o.0 q.0 o.3 q.3 i))) (o.2 ∙ sym q.2)

  one_trees : (ts : m.Trees) (xs ys : List Expr) → all_trees xs ≡ ts → all_trees ys ≡ ts → xs ≡ ys
  one_trees m.no_tree [] [] is js = refl
  one_trees m.no_tree (x ∷ xs) ys is js = absurd cc
  one_trees m.no_tree [] (y ∷ ys) is js = absurd cc
  one_trees (m.and_tree t rest) [] ys is js = absurd cc
  one_trees (m.and_tree t rest) (x ∷ xs) [] is js = absurd cc
  one_trees (m.and_tree t rest) (x ∷ xs) (y ∷ ys) is js =
      let e0 : tree x ≡ t = cc in let g0 : tree y ≡ t = cc in
      let e : all_trees xs ≡ rest = cc in let g : all_trees ys ≡ rest = cc in
      λ i. one_tree t x y e0 g0 i ∷ one_trees rest xs ys e g i

  one_patterns : (ts : m.Patterns) (xs ys : List Pattern) → all_patterns xs ≡ ts → all_patterns ys ≡ ts → xs ≡ ys
  one_patterns m.no_pattern [] [] is js = refl
  one_patterns m.no_pattern (x ∷ xs) ys is js = absurd cc
  one_patterns m.no_pattern [] (y ∷ ys) is js = absurd cc
  one_patterns (m.and_pattern t rest) [] ys is js = absurd cc
  one_patterns (m.and_pattern t rest) (x ∷ xs) [] is js = absurd cc
  one_patterns (m.and_pattern t rest) (x ∷ xs) (y ∷ ys) is js =
      let e0 : pattern_tree x ≡ t = cc in let g0 : pattern_tree y ≡ t = cc in
      let e : all_patterns xs ≡ rest = cc in let g : all_patterns ys ≡ rest = cc in
      λ i. one_pattern t x y e0 g0 i ∷ one_patterns rest xs ys e g i

  one_pairs : (ts : m.Pairs) (xs ys : List MapPair) → all_pairs xs ≡ ts → all_pairs ys ≡ ts → xs ≡ ys
  one_pairs m.no_pair [] [] is js = refl
  one_pairs m.no_pair (x ∷ xs) ys is js = absurd cc
  one_pairs m.no_pair [] (y ∷ ys) is js = absurd cc
  one_pairs (m.and_pair exact key value rest) [] ys is js = absurd cc
  one_pairs (m.and_pair exact key value rest) (x ∷ xs) [] is js = absurd cc
  one_pairs (m.and_pair exact key value rest) (x ∷ xs) (y ∷ ys) is js =
      let e0 : (pair_parts x).exact ≡ exact = cc in let g0 : (pair_parts y).exact ≡ exact = cc in
      let is0 = ap (λ (z : PairParts). z.exact) (sym (pair-is x)) ∙ e0 in
      let js0 = ap (λ (z : PairParts). z.exact) (sym (pair-is y)) ∙ g0 in
      let e1 : (pair_parts x).key ≡ key = cc in let g1 : (pair_parts y).key ≡ key = cc in
      let is1 = ap (λ (z : PairParts). z.key) (sym (pair-is x)) ∙ e1 in
      let js1 = ap (λ (z : PairParts). z.key) (sym (pair-is y)) ∙ g1 in
      let e2 : (pair_parts x).value ≡ value = cc in let g2 : (pair_parts y).value ≡ value = cc in
      let is2 = ap (λ (z : PairParts). z.value) (sym (pair-is x)) ∙ e2 in
      let js2 = ap (λ (z : PairParts). z.value) (sym (pair-is y)) ∙ g2 in
      let e : all_pairs xs ≡ rest = cc in let g : all_pairs ys ≡ rest = cc in
      λ i. (record { exact = (is0 ∙ sym js0) i; key = one_tree key x.key y.key is1 js1 i; value = one_tree value x.value y.value is2 js2 i }) ∷ one_pairs rest xs ys e g i

  one_pat_pairs : (ts : m.PatPairs) (xs ys : List PatPair) → all_pat_pairs xs ≡ ts → all_pat_pairs ys ≡ ts → xs ≡ ys
  one_pat_pairs m.no_pat_pair [] [] is js = refl
  one_pat_pairs m.no_pat_pair (x ∷ xs) ys is js = absurd cc
  one_pat_pairs m.no_pat_pair [] (y ∷ ys) is js = absurd cc
  one_pat_pairs (m.and_pat_pair key value rest) [] ys is js = absurd cc
  one_pat_pairs (m.and_pat_pair key value rest) (x ∷ xs) [] is js = absurd cc
  one_pat_pairs (m.and_pat_pair key value rest) (x ∷ xs) (y ∷ ys) is js =
      let e0 : (pat_pair_parts x).key ≡ key = cc in let g0 : (pat_pair_parts y).key ≡ key = cc in
      let is0 = ap (λ (z : PatPairParts). z.key) (sym (pat_pair-is x)) ∙ e0 in
      let js0 = ap (λ (z : PatPairParts). z.key) (sym (pat_pair-is y)) ∙ g0 in
      let e1 : (pat_pair_parts x).value ≡ value = cc in let g1 : (pat_pair_parts y).value ≡ value = cc in
      let is1 = ap (λ (z : PatPairParts). z.value) (sym (pat_pair-is x)) ∙ e1 in
      let js1 = ap (λ (z : PatPairParts). z.value) (sym (pat_pair-is y)) ∙ g1 in
      let e : all_pat_pairs xs ≡ rest = cc in let g : all_pat_pairs ys ≡ rest = cc in
      λ i. (record { key = one_tree key x.key y.key is0 js0 i; value = one_pattern value x.value y.value is1 js1 i }) ∷ one_pat_pairs rest xs ys e g i

  one_segments : (ts : m.Segments) (xs ys : List Segment) → all_segments xs ≡ ts → all_segments ys ≡ ts → xs ≡ ys
  one_segments m.no_segment [] [] is js = refl
  one_segments m.no_segment (x ∷ xs) ys is js = absurd cc
  one_segments m.no_segment [] (y ∷ ys) is js = absurd cc
  one_segments (m.and_segment value args rest) [] ys is js = absurd cc
  one_segments (m.and_segment value args rest) (x ∷ xs) [] is js = absurd cc
  one_segments (m.and_segment value args rest) (x ∷ xs) (y ∷ ys) is js =
      let e0 : (segment_parts x).value ≡ value = cc in let g0 : (segment_parts y).value ≡ value = cc in
      let is0 = ap (λ (z : SegmentParts). z.value) (sym (segment-is x)) ∙ e0 in
      let js0 = ap (λ (z : SegmentParts). z.value) (sym (segment-is y)) ∙ g0 in
      let e1 : (segment_parts x).args ≡ args = cc in let g1 : (segment_parts y).args ≡ args = cc in
      let is1 = ap (λ (z : SegmentParts). z.args) (sym (segment-is x)) ∙ e1 in
      let js1 = ap (λ (z : SegmentParts). z.args) (sym (segment-is y)) ∙ g1 in
      let e : all_segments xs ≡ rest = cc in let g : all_segments ys ≡ rest = cc in
      λ i. (segment_of x y (λ i. record { value = one_tree value (out-Segment x).value (out-Segment y).value is0 js0 i; args = one_trees args (out-Segment x).args (out-Segment y).args is1 js1 i })) i ∷ one_segments rest xs ys e g i

  one_pat_segments : (ts : m.PatSegments) (xs ys : List PatSegment) → all_pat_segments xs ≡ ts → all_pat_segments ys ≡ ts → xs ≡ ys
  one_pat_segments m.no_pat_segment [] [] is js = refl
  one_pat_segments m.no_pat_segment (x ∷ xs) ys is js = absurd cc
  one_pat_segments m.no_pat_segment [] (y ∷ ys) is js = absurd cc
  one_pat_segments (m.and_pat_segment value args rest) [] ys is js = absurd cc
  one_pat_segments (m.and_pat_segment value args rest) (x ∷ xs) [] is js = absurd cc
  one_pat_segments (m.and_pat_segment value args rest) (x ∷ xs) (y ∷ ys) is js =
      let e0 : (pat_segment_parts x).value ≡ value = cc in let g0 : (pat_segment_parts y).value ≡ value = cc in
      let is0 = ap (λ (z : PatSegmentParts). z.value) (sym (pat_segment-is x)) ∙ e0 in
      let js0 = ap (λ (z : PatSegmentParts). z.value) (sym (pat_segment-is y)) ∙ g0 in
      let e1 : (pat_segment_parts x).args ≡ args = cc in let g1 : (pat_segment_parts y).args ≡ args = cc in
      let is1 = ap (λ (z : PatSegmentParts). z.args) (sym (pat_segment-is x)) ∙ e1 in
      let js1 = ap (λ (z : PatSegmentParts). z.args) (sym (pat_segment-is y)) ∙ g1 in
      let e : all_pat_segments xs ≡ rest = cc in let g : all_pat_segments ys ≡ rest = cc in
      λ i. (pat_segment_of x y (λ i. record { value = one_pattern value (out-PatSegment x).value (out-PatSegment y).value is0 js0 i; args = one_trees args (out-PatSegment x).args (out-PatSegment y).args is1 js1 i })) i
      ∷ one_pat_segments rest xs ys e g i

  one_clauses : (ts : m.Clauses) (xs ys : List Clause) → all_clauses xs ≡ ts → all_clauses ys ≡ ts → xs ≡ ys
  one_clauses m.no_clause [] [] is js = refl
  one_clauses m.no_clause (x ∷ xs) ys is js = absurd cc
  one_clauses m.no_clause [] (y ∷ ys) is js = absurd cc
  one_clauses (m.and_clause mark patterns guard body rest) [] ys is js = absurd cc
  one_clauses (m.and_clause mark patterns guard body rest) (x ∷ xs) [] is js = absurd cc
  one_clauses (m.and_clause mark patterns guard body rest) (x ∷ xs) (y ∷ ys) is js =
      let e0 : (clause_parts x).mark ≡ mark = cc in let g0 : (clause_parts y).mark ≡ mark = cc in
      let is0 = ap (λ (z : ClauseParts). z.mark) (sym (clause-is x)) ∙ e0 in
      let js0 = ap (λ (z : ClauseParts). z.mark) (sym (clause-is y)) ∙ g0 in
      let e1 : (clause_parts x).patterns ≡ patterns = cc in let g1 : (clause_parts y).patterns ≡ patterns = cc in
      let is1 = ap (λ (z : ClauseParts). z.patterns) (sym (clause-is x)) ∙ e1 in
      let js1 = ap (λ (z : ClauseParts). z.patterns) (sym (clause-is y)) ∙ g1 in
      let e2 : (clause_parts x).guard ≡ guard = cc in let g2 : (clause_parts y).guard ≡ guard = cc in
      let is2 = ap (λ (z : ClauseParts). z.guard) (sym (clause-is x)) ∙ e2 in
      let js2 = ap (λ (z : ClauseParts). z.guard) (sym (clause-is y)) ∙ g2 in
      let e3 : (clause_parts x).body ≡ body = cc in let g3 : (clause_parts y).body ≡ body = cc in
      let is3 = ap (λ (z : ClauseParts). z.body) (sym (clause-is x)) ∙ e3 in
      let js3 = ap (λ (z : ClauseParts). z.body) (sym (clause-is y)) ∙ g3 in
      let e : all_clauses xs ≡ rest = cc in let g : all_clauses ys ≡ rest = cc in
      λ i. (clause_of x y (λ i. record {
        mark = (is0 ∙ sym js0) i;
        patterns = one_patterns patterns (out-Clause x).patterns (out-Clause y).patterns is1 js1 i;
        guard = one_tree guard (out-Clause x).guard (out-Clause y).guard is2 js2 i;
        body = one_tree body (out-Clause x).body (out-Clause y).body is3 js3 i;
      })) i ∷ one_clauses rest xs ys e g i

  one_defs : (ts : m.Defs) (xs ys : List (FunDefOf Expr)) → all_defs xs ≡ ts → all_defs ys ≡ ts → xs ≡ ys
  one_defs m.no_def [] [] is js = refl
  one_defs m.no_def (x ∷ xs) ys is js = absurd cc
  one_defs m.no_def [] (y ∷ ys) is js = absurd cc
  one_defs (m.and_def name mark zs t rest) [] ys is js = absurd cc
  one_defs (m.and_def name mark zs t rest) (x ∷ xs) [] is js = absurd cc
  one_defs (m.and_def name mark zs t rest) (x ∷ xs) (y ∷ ys) is js =
      let e0 : x.name ≡ name = cc in let g0 : y.name ≡ name = cc in
      let e1 : x.mark ≡ mark = cc in let g1 : y.mark ≡ mark = cc in
      let e2 : x.fun.params ≡ zs = cc in let g2 : y.fun.params ≡ zs = cc in
      let e3 : tree x.fun.body ≡ t = cc in let g3 : tree y.fun.body ≡ t = cc in
      let e : all_defs xs ≡ rest = cc in let g : all_defs ys ≡ rest = cc in
      λ i. (record { name = (e0 ∙ sym g0) i; mark = (e1 ∙ sym g1) i; fun = record { params = (e2 ∙ sym g2) i; body = one_tree t x.fun.body y.fun.body e3 g3 i } }) ∷ one_defs rest xs ys e g i

  one_steps : (ts : m.Steps) (xs ys : List (StepOf Expr)) → all_steps xs ≡ ts → all_steps ys ≡ ts → xs ≡ ys
  one_steps m.no_step [] [] is js = refl
  one_steps m.no_step (Let k zs x ∷ xs) ys is js = absurd cc
  one_steps m.no_step (Do k x ∷ xs) ys is js = absurd cc
  one_steps m.no_step [] (Let k zs y ∷ ys) is js = absurd cc
  one_steps m.no_step [] (Do k y ∷ ys) is js = absurd cc
  one_steps (m.and_let k zs t rest) [] ys is js = absurd cc
  one_steps (m.and_let k zs t rest) (Do j x ∷ xs) ys is js = absurd cc
  one_steps (m.and_let k zs t rest) (Let j vs x ∷ xs) [] is js = absurd cc
  one_steps (m.and_let k zs t rest) (Let j vs x ∷ xs) (Do l y ∷ ys) is js = absurd cc
  one_steps (m.and_let k zs t rest) (Let j vs x ∷ xs) (Let l ws y ∷ ys) is js =
      let e0 : j ≡ k = cc in let g0 : l ≡ k = cc in
      let e1 : vs ≡ zs = cc in let g1 : ws ≡ zs = cc in
      let e2 : tree x ≡ t = cc in let g2 : tree y ≡ t = cc in
      let e : all_steps xs ≡ rest = cc in let g : all_steps ys ≡ rest = cc in
      λ i. Let ((e0 ∙ sym g0) i) ((e1 ∙ sym g1) i) (one_tree t x y e2 g2 i) ∷ one_steps rest xs ys e g i
  one_steps (m.and_do k t rest) [] ys is js = absurd cc
  one_steps (m.and_do k t rest) (Let j vs x ∷ xs) ys is js = absurd cc
  one_steps (m.and_do k t rest) (Do j x ∷ xs) [] is js = absurd cc
  one_steps (m.and_do k t rest) (Do j x ∷ xs) (Let l ws y ∷ ys) is js = absurd cc
  one_steps (m.and_do k t rest) (Do j x ∷ xs) (Do l y ∷ ys) is js =
      let e0 : j ≡ k = cc in let g0 : l ≡ k = cc in
      let e2 : tree x ≡ t = cc in let g2 : tree y ≡ t = cc in
      let e : all_steps xs ≡ rest = cc in let g : all_steps ys ≡ rest = cc in
      λ i. Do ((e0 ∙ sym g0) i) (one_tree t x y e2 g2 i) ∷ one_steps rest xs ys e g i

pub one_definition : (a b : FunDefOf Expr) → def_tree a ≡ def_tree b → a ≡ b
one_definition a b same =
    let name = ap (λ (d : FunDefOf m.Tree). d.name) same in
    let mark = ap (λ (d : FunDefOf m.Tree). d.mark) same in
    let params = ap (λ (d : FunDefOf m.Tree). d.fun.params) same in
    let body = one_tree (tree b.fun.body) a.fun.body b.fun.body (ap (λ (d : FunDefOf m.Tree). d.fun.body) same) refl in
    λ i. record { name = name i; mark = mark i; fun = record { params = params i; body = body i } }
