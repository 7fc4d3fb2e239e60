-- The walk for calls by literal names, in patterns: what each way out of it says.
use Rattle.std.proofs.Common.{◌≡◌, List, ◌++◌, OnOk, sym, subst}
use Rattle.std.proofs.lemmas.Result.{on_ok_weaker}
use Rattle.type_kinds.specs.declared.atom.Atom.{Atom}
use Rattle.core_ast.specs.declared.syntax.FunName.{FunName}
use Rattle.core_ast.specs.declared.syntax.VarName.{VarName}
use Rattle.core_ast.specs.declared.syntax.Literal.{Literal}
use Rattle.core_ast.specs.declared.syntax.Pattern.{Pattern}
use Rattle.core_ast.specs.declared.syntax.PatPair.{PatPair}
use Rattle.core_ast.specs.declared.syntax.PatSegment.{PatSegment}
use Rattle.core_ast.specs.declared.syntax.PatForm.TheVariants as p
use Rattle.core_ast.specs.Model as m
use Rattle.core_ast.specs.Tree.{pattern_tree, all_patterns, all_pat_pairs, all_pat_segments}
use Rattle.core_ast.proofs.Forms.{binds_pattern, equals_pattern, list_of_pattern, tuple_of_pattern, map_of_pattern, binary_of_pattern, alias_pattern}
use Rattle.cons_tree.specs.declared.parts.Callee.{Callee}
use Rattle.module_flow_calls.specs.declared.node_context.NodeContext.{NodeContext}
use Rattle.module_flow_calls.specs.declared.unknown.NamingWalk.{NamingWalk}
use Rattle.module_flow_calls.specs.NodeContext.{under}
use Rattle.module_flow_calls.specs.Unknown.{Naming, pattern_namings, patterns_namings, pat_pair_namings, pat_segment_namings}
use Rattle.module_flow_calls.specs.steps.FirstCalls.{Notes}
use Rattle.module_flow_calls.proofs.FirstCalls.{Answer, notes_none, notes_then}

module _ (k : Atom → FunName → Callee) (w0 : NamingWalk) (a : NodeContext) (e : Pattern) where
  -- what was met before was all that is met in the pattern
  whole : (w : NamingWalk) (q : m.Pattern) → pattern_tree e ≡ q → Notes k w0 w (pattern_namings a q) → Notes k w0 w (pattern_namings a (pattern_tree e))
  whole w q is = subst (λ z. Notes k w0 w (pattern_namings a z)) (sym is)

  pub pattern_variable : (x : Atom) → e.form ≡ p.Var x → Notes k w0 w0 (pattern_namings a (pattern_tree e))
  pattern_variable x is = whole w0 _ (binds_pattern e x is) (notes_none k w0)

  pub pattern_literal : (x : Literal) → e.form ≡ p.Lit x → Notes k w0 w0 (pattern_namings a (pattern_tree e))
  pattern_literal x is = whole w0 _ (equals_pattern e x is) (notes_none k w0)

  -- inside of it stands b around
  module _ (b : NodeContext) (inner : b ≡ under a e.mark.note) (r : Answer) (w1 : NamingWalk) where
    within : (w v : NamingWalk) (part : NodeContext → List Naming) → Notes k w v (part b) → Notes k w v (part (under a e.mark.note))
    within w v part = subst (λ z. Notes k w v (part z)) inner

    pub pattern_tuple : (ps qs : List Pattern) → e.form ≡ p.Tuple ps → qs ≡ ps → OnOk r (Notes k w0 w1 (patterns_namings b (all_patterns qs))) → OnOk r (Notes k w0 w1 (pattern_namings a (pattern_tree e)))
    pattern_tuple ps qs is same = on_ok_weaker r (λ one. whole w1 _ (tuple_of_pattern e ps is) (within w0 w1 (λ z. patterns_namings z (all_patterns ps)) (subst (λ z. Notes k w0 w1 (patterns_namings b (all_patterns z))) same one)))

    pub pattern_map : (ps qs : List PatPair) → e.form ≡ p.Map ps → qs ≡ ps → OnOk r (Notes k w0 w1 (pat_pair_namings b (all_pat_pairs qs))) → OnOk r (Notes k w0 w1 (pattern_namings a (pattern_tree e)))
    pattern_map ps qs is same = on_ok_weaker r (λ one. whole w1 _ (map_of_pattern e ps is) (within w0 w1 (λ z. pat_pair_namings z (all_pat_pairs ps)) (subst (λ z. Notes k w0 w1 (pat_pair_namings b (all_pat_pairs z))) same one)))

    pub pattern_binary : (ss ts : List PatSegment) → e.form ≡ p.Binary ss → ts ≡ ss → OnOk r (Notes k w0 w1 (pat_segment_namings b (all_pat_segments ts))) → OnOk r (Notes k w0 w1 (pattern_namings a (pattern_tree e)))
    pattern_binary ss ts is same = on_ok_weaker r (λ one. whole w1 _ (binary_of_pattern e ss is)
        (within w0 w1 (λ z. pat_segment_namings z (all_pat_segments ss)) (subst (λ z. Notes k w0 w1 (pat_segment_namings b (all_pat_segments z))) same one)))

    pub pattern_alias : (v : VarName) (x y : Pattern) → e.form ≡ p.Alias v x → y ≡ x → OnOk r (Notes k w0 w1 (pattern_namings b (pattern_tree y))) → OnOk r (Notes k w0 w1 (pattern_namings a (pattern_tree e)))
    pattern_alias v x y is same = on_ok_weaker r (λ one. whole w1 _ (alias_pattern e v x is) (within w0 w1 (λ z. pattern_namings z (pattern_tree x)) (subst (λ z. Notes k w0 w1 (pattern_namings b (pattern_tree z))) same one)))

    module _ (w2 : NamingWalk) where
      pub pattern_listed : (ps qs : List Pattern) (x y : Pattern) → e.form ≡ p.Listed ps x → qs ≡ ps → Notes k w0 w1 (patterns_namings b (all_patterns qs)) → y ≡ x
          → OnOk r (Notes k w1 w2 (pattern_namings b (pattern_tree y))) → OnOk r (Notes k w0 w2 (pattern_namings a (pattern_tree e)))
      pattern_listed ps qs x y is same one last = on_ok_weaker r (λ two. whole w2 _ (list_of_pattern e ps x is) (within w0 w2 (λ z. patterns_namings z (all_patterns ps) ++ pattern_namings z (pattern_tree x))
          (notes_then k w0 w1 w2 (patterns_namings b (all_patterns ps)) (pattern_namings b (pattern_tree x)) (subst (λ z. Notes k w0 w1 (patterns_namings b (all_patterns z))) same one)
          (subst (λ z. Notes k w1 w2 (pattern_namings b (pattern_tree z))) last two))))

pub ruleset called_patterns = (pattern_variable, pattern_literal, pattern_tuple, pattern_map, pattern_binary, pattern_alias, pattern_listed)
