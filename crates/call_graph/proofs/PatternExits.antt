-- The walk through patterns: what each way out of it says.
use Rattle.std.proofs.Common.{◌≡◌, List, ◌++◌, OnOk, sym, ap, ◌∙◌}
use Rattle.std.proofs.lemmas.Result.{on_ok_weaker}
use Rattle.type_kinds.specs.declared.atom.Atom.{Atom}
use Rattle.core_ast.specs.declared.syntax.VarName.{VarName}
use Rattle.core_ast.specs.declared.syntax.Literal.{Literal}
use Rattle.core_ast.specs.declared.syntax.Pattern.{Pattern}
use Rattle.core_ast.specs.declared.syntax.PatPair.{PatPair}
use Rattle.core_ast.specs.declared.syntax.PatSegment.{PatSegment}
use Rattle.core_ast.specs.declared.syntax.PatForm.TheVariants as p
use Rattle.core_ast.specs.Model as m
use Rattle.core_ast.specs.Tree.{pattern_tree, all_patterns, all_pat_pairs, all_pat_segments}
use Rattle.core_ast.proofs.Forms.{binds_pattern, equals_pattern, list_of_pattern, tuple_of_pattern, map_of_pattern, binary_of_pattern, alias_pattern}
use Rattle.call_graph.specs.declared.walk.CallWalk.{CallWalk}
use Rattle.call_graph.specs.Targets.{pattern_targets, patterns_targets, pat_pair_targets, pat_segment_targets}
use Rattle.call_graph.specs.steps.Walking.{noting}
use Rattle.call_graph.proofs.Notes.{Answer, next_step, noted_none}

module _ (w0 : CallWalk) (e : Pattern) where
  abbrev after : m.Pattern → CallWalk
  after q = noting w0 (pattern_targets w0.locals q)

  pub pattern_variable : (x : Atom) → e.form ≡ p.Var x → w0 ≡ noting w0 (pattern_targets w0.locals (pattern_tree e))
  pattern_variable x is = noted_none w0 ∙ ap after (sym (binds_pattern e x is))

  pub pattern_literal : (x : Literal) → e.form ≡ p.Lit x → w0 ≡ noting w0 (pattern_targets w0.locals (pattern_tree e))
  pattern_literal x is = noted_none w0 ∙ ap after (sym (equals_pattern e x is))

  module _ (r : Answer) (w1 : CallWalk) where
    pub pattern_tuple : (ps qs : List Pattern) → e.form ≡ p.Tuple ps → qs ≡ ps → OnOk r (w1 ≡ noting w0 (patterns_targets w0.locals (all_patterns qs))) → OnOk r (w1 ≡ noting w0 (pattern_targets w0.locals (pattern_tree e)))
    pattern_tuple ps qs is same = on_ok_weaker r (λ one. one ∙ ap (λ z. noting w0 (patterns_targets w0.locals (all_patterns z))) same ∙ ap after (sym (tuple_of_pattern e ps is)))

    pub pattern_map : (ps qs : List PatPair) → e.form ≡ p.Map ps → qs ≡ ps → OnOk r (w1 ≡ noting w0 (pat_pair_targets w0.locals (all_pat_pairs qs))) → OnOk r (w1 ≡ noting w0 (pattern_targets w0.locals (pattern_tree e)))
    pattern_map ps qs is same = on_ok_weaker r (λ one. one ∙ ap (λ z. noting w0 (pat_pair_targets w0.locals (all_pat_pairs z))) same ∙ ap after (sym (map_of_pattern e ps is)))

    pub pattern_binary : (ss ts : List PatSegment) → e.form ≡ p.Binary ss → ts ≡ ss → OnOk r (w1 ≡ noting w0 (pat_segment_targets w0.locals (all_pat_segments ts)))
        → OnOk r (w1 ≡ noting w0 (pattern_targets w0.locals (pattern_tree e)))
    pattern_binary ss ts is same = on_ok_weaker r (λ one. one ∙ ap (λ z. noting w0 (pat_segment_targets w0.locals (all_pat_segments z))) same ∙ ap after (sym (binary_of_pattern e ss is)))

    pub pattern_alias : (v : VarName) (x y : Pattern) → e.form ≡ p.Alias v x → y ≡ x → OnOk r (w1 ≡ noting w0 (pattern_targets w0.locals (pattern_tree y)))
        → OnOk r (w1 ≡ noting w0 (pattern_targets w0.locals (pattern_tree e)))
    pattern_alias v x y is same = on_ok_weaker r (λ one. one ∙ ap (λ z. after (pattern_tree z)) same ∙ ap after (sym (alias_pattern e v x is)))

    module _ (w2 : CallWalk) where
      pub pattern_listed : (ps qs : List Pattern) (x y : Pattern) → e.form ≡ p.Listed ps x → qs ≡ ps → w1 ≡ noting w0 (patterns_targets w0.locals (all_patterns qs)) → y ≡ x
          → OnOk r (w2 ≡ noting w1 (pattern_targets w1.locals (pattern_tree y))) → OnOk r (w2 ≡ noting w0 (pattern_targets w0.locals (pattern_tree e)))
      pattern_listed ps qs x y is same one last = on_ok_weaker r (λ two. next_step w0 w1 w2 (patterns_targets w0.locals (all_patterns qs)) (λ fs. pattern_targets fs (pattern_tree y)) one two
          ∙ ap (λ z. noting w0 (patterns_targets w0.locals (all_patterns z) ++ pattern_targets w0.locals (pattern_tree y))) same
          ∙ ap (λ z. noting w0 (patterns_targets w0.locals (all_patterns ps) ++ pattern_targets w0.locals (pattern_tree z))) last
          ∙ ap after (sym (list_of_pattern e ps x is)))

pub ruleset pattern_exits = (pattern_variable, pattern_literal, pattern_tuple, pattern_map, pattern_binary, pattern_alias, pattern_listed)
