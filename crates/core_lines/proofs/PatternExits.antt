-- The walk through patterns: what each way out of it says.
use Rattle.std.proofs.Common.{◌≡◌, ℕ, List, [], ◌∷◌, ◌++◌, Option, OnOk, refl, sym, ap, ◌∙◌}
use Rattle.std.specs.Prelude.{unwrap_or}
use Rattle.std.proofs.lemmas.Result.{on_ok_weaker}
use Rattle.type_kinds.specs.declared.atom.Atom.{Atom}
use Rattle.core_ast.specs.declared.syntax.VarName.{VarName}
use Rattle.core_ast.specs.declared.syntax.Literal.{Literal}
use Rattle.core_ast.specs.declared.syntax.Pattern.{Pattern}
use Rattle.core_ast.specs.declared.syntax.PatPair.{PatPair}
use Rattle.core_ast.specs.declared.syntax.PatSegment.{PatSegment}
use Rattle.core_ast.specs.declared.syntax.PatForm.TheVariants as p
use Rattle.core_ast.specs.Model as m
use Rattle.core_ast.specs.Tree.{pattern_tree, all_patterns, all_pat_pairs, all_pat_segments}
use Rattle.core_ast.proofs.Forms.{binds_pattern, equals_pattern, list_of_pattern, tuple_of_pattern, map_of_pattern, binary_of_pattern, alias_pattern, OpenedPattern, opened_pattern}
use Rattle.core_lines.specs.Lines.{line_of, lines_of_pattern, lines_of_patterns, lines_of_pat_pairs, lines_of_pat_segments, noted}
use Rattle.core_lines.specs.steps.Parts.{below_pattern}
use Rattle.core_lines.proofs.Joining.{Answer, next, nothing}

-- the own line of a pattern stands before those of its parts
own_first : (a : Option ℕ) (e : Pattern) (q : m.Pattern) → OpenedPattern e q → lines_of_pattern a q ≡ line_of a e.mark ∷ below_pattern (noted a e.mark) q
own_first a e (m.binds k x) h = ap (λ k. line_of a k ∷ below_pattern (noted a k) (m.binds k x)) (sym h.1)
own_first a e (m.equals k x) h = ap (λ k. line_of a k ∷ below_pattern (noted a k) (m.equals k x)) (sym h.1)
own_first a e (m.list_of k qs q) h = ap (λ k. line_of a k ∷ below_pattern (noted a k) (m.list_of k qs q)) (sym h.3)
own_first a e (m.tuple_of k qs) h = ap (λ k. line_of a k ∷ below_pattern (noted a k) (m.tuple_of k qs)) (sym h.2)
own_first a e (m.map_of k us) h = ap (λ k. line_of a k ∷ below_pattern (noted a k) (m.map_of k us)) (sym h.2)
own_first a e (m.binary_of k us) h = ap (λ k. line_of a k ∷ below_pattern (noted a k) (m.binary_of k us)) (sym h.2)
own_first a e (m.alias k x q) h = ap (λ k. line_of a k ∷ below_pattern (noted a k) (m.alias k x q)) (sym h.2)

pub own_pattern_line : (o0 o1 o2 : List ℕ) (a i : Option ℕ) (e : Pattern) → i ≡ noted a e.mark → o1 ≡ o0 ++ unwrap_or i e.mark.place.line ∷ [] → o2 ≡ o1 ++ below_pattern i (pattern_tree e)
    → o2 ≡ o0 ++ lines_of_pattern a (pattern_tree e)
own_pattern_line o0 o1 o2 a i e is one two =
    next o0 o1 o2 (unwrap_or i e.mark.place.line ∷ []) (below_pattern i (pattern_tree e)) one two
    ∙ ap (λ j. o0 ++ unwrap_or j e.mark.place.line ∷ below_pattern j (pattern_tree e)) is ∙ ap (λ x. o0 ++ x) (sym (own_first a e (pattern_tree e) (opened_pattern e (pattern_tree e) refl)))

module _ (o : List ℕ) (a : Option ℕ) (e : Pattern) where
  abbrev after : m.Pattern → List ℕ
  after q = o ++ below_pattern a q

  pub pattern_variable : (x : Atom) → e.form ≡ p.Var x → o ≡ o ++ below_pattern a (pattern_tree e)
  pattern_variable x is = nothing o ∙ ap after (sym (binds_pattern e x is))

  pub pattern_literal : (x : Literal) → e.form ≡ p.Lit x → o ≡ o ++ below_pattern a (pattern_tree e)
  pattern_literal x is = nothing o ∙ ap after (sym (equals_pattern e x is))

  module _ (r : Answer) (o1 : List ℕ) where
    pub pattern_tuple : (ps qs : List Pattern) → e.form ≡ p.Tuple ps → qs ≡ ps → OnOk r (o1 ≡ o ++ lines_of_patterns a (all_patterns qs)) → OnOk r (o1 ≡ o ++ below_pattern a (pattern_tree e))
    pattern_tuple ps qs is same = on_ok_weaker r (λ one. one ∙ ap (λ z. o ++ lines_of_patterns a (all_patterns z)) same ∙ ap after (sym (tuple_of_pattern e ps is)))

    pub pattern_map : (ps qs : List PatPair) → e.form ≡ p.Map ps → qs ≡ ps → OnOk r (o1 ≡ o ++ lines_of_pat_pairs a (all_pat_pairs qs)) → OnOk r (o1 ≡ o ++ below_pattern a (pattern_tree e))
    pattern_map ps qs is same = on_ok_weaker r (λ one. one ∙ ap (λ z. o ++ lines_of_pat_pairs a (all_pat_pairs z)) same ∙ ap after (sym (map_of_pattern e ps is)))

    pub pattern_binary : (ss ts : List PatSegment) → e.form ≡ p.Binary ss → ts ≡ ss → OnOk r (o1 ≡ o ++ lines_of_pat_segments a (all_pat_segments ts)) → OnOk r (o1 ≡ o ++ below_pattern a (pattern_tree e))
    pattern_binary ss ts is same = on_ok_weaker r (λ one. one ∙ ap (λ z. o ++ lines_of_pat_segments a (all_pat_segments z)) same ∙ ap after (sym (binary_of_pattern e ss is)))

    pub pattern_alias : (v : VarName) (x y : Pattern) → e.form ≡ p.Alias v x → y ≡ x → OnOk r (o1 ≡ o ++ lines_of_pattern a (pattern_tree y)) → OnOk r (o1 ≡ o ++ below_pattern a (pattern_tree e))
    pattern_alias v x y is same = on_ok_weaker r (λ one. one ∙ ap (λ z. o ++ lines_of_pattern a (pattern_tree z)) same ∙ ap after (sym (alias_pattern e v x is)))

    module _ (o2 : List ℕ) where
      pub pattern_listed : (ps qs : List Pattern) (x y : Pattern) → e.form ≡ p.Listed ps x → qs ≡ ps → o1 ≡ o ++ lines_of_patterns a (all_patterns qs) → y ≡ x → OnOk r (o2 ≡ o1 ++ lines_of_pattern a (pattern_tree y))
          → OnOk r (o2 ≡ o ++ below_pattern a (pattern_tree e))
      pattern_listed ps qs x y is same one last = on_ok_weaker r (λ two. next o o1 o2 (lines_of_patterns a (all_patterns qs)) (lines_of_pattern a (pattern_tree y)) one two
          ∙ ap (λ z. o ++ (lines_of_patterns a (all_patterns z) ++ lines_of_pattern a (pattern_tree y))) same ∙ ap (λ z. o ++ (lines_of_patterns a (all_patterns ps) ++ lines_of_pattern a (pattern_tree z))) last
          ∙ ap after (sym (list_of_pattern e ps x is)))

pub ruleset pattern_exits = (pattern_variable, pattern_literal, pattern_tuple, pattern_map, pattern_binary, pattern_alias, pattern_listed)
