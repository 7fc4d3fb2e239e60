-- The walk through patterns: what each way out of it says.
use Rattle.std.proofs.Common.{◌≡◌, List, OnOk, sym, subst}
use Rattle.std.specs.Prelude.{Result}
use Rattle.std.proofs.lemmas.Result.{on_ok_weaker}
use Rattle.type_kinds.specs.declared.atom.Atom.{Atom}
use Rattle.type_kinds.specs.declared.memory.Memory.{Memory}
use Rattle.core_ast.specs.declared.syntax.Literal.{Literal}
use Rattle.core_ast.specs.declared.syntax.PatForm.TheVariants as p
use Rattle.core_ast.specs.declared.syntax.PatPair.{PatPair}
use Rattle.core_ast.specs.declared.syntax.PatSegment.{PatSegment}
use Rattle.core_ast.specs.declared.syntax.Pattern.{Pattern}
use Rattle.core_ast.specs.declared.syntax.VarName.{VarName}
use Rattle.core_ast.specs.Model as m
use Rattle.core_ast.specs.Tree.{all_pat_pairs, all_pat_segments, all_patterns, pattern_tree}
use Rattle.core_ast.proofs.Forms.{alias_pattern, binary_of_pattern, binds_pattern, equals_pattern, list_of_pattern, map_of_pattern, tuple_of_pattern}
use Rattle.fun_flow_places.specs.Naming.{place_named}
use Rattle.fun_flow_places.specs.declared.places.FlowPlace.{FlowPlace}
use Rattle.fun_flow_rules.specs.declared.walk.RuleWalk.{RuleWalk}
use Rattle.fun_flow_rules.specs.steps.Walking.{Binds, PatternBinds, no_rules}
use Rattle.fun_flow_rules.proofs.Steps.{binds_none, binds_then}
use Rattle.fun_flow_sets.specs.Rules.{rules_of_pat_pairs, rules_of_pat_segments, rules_of_pattern, rules_of_patterns}
use Rattle.fun_flow_sets.specs.Scopes.{with_pat_pairs, with_pat_segments, with_pattern, with_patterns, with_place}

module _ (w0 : RuleWalk) (e : Pattern) (q : FlowPlace) where
  pub equals_exit : (x : Literal) → e.form ≡ p.Lit x → PatternBinds w0 w0 q (pattern_tree e)
  equals_exit x is = subst (PatternBinds w0 w0 q) (sym (equals_pattern e x is)) (binds_none w0)

  module _ (r : Result (Unit {0}) Memory) (w1 : RuleWalk) where
    pub binds_exit : (x : Atom) → e.form ≡ p.Var x → OnOk r (Binds w0 w1 no_rules (λ U home sc. with_place x (place_named U q) sc)) → OnOk r (PatternBinds w0 w1 q (pattern_tree e))
    binds_exit x is = on_ok_weaker r (λ h. subst (PatternBinds w0 w1 q) (sym (binds_pattern e x is)) h)

    pub tuple_of_exit : (ps : List Pattern) → e.form ≡ p.Tuple ps
        → OnOk r (Binds w0 w1 (λ U home sc. rules_of_patterns U home sc (place_named U q) (all_patterns ps)) (λ U home sc. with_patterns (place_named U q) (all_patterns ps) sc))
        → OnOk r (PatternBinds w0 w1 q (pattern_tree e))
    tuple_of_exit ps is = on_ok_weaker r (λ h. subst (PatternBinds w0 w1 q) (sym (tuple_of_pattern e ps is)) h)

    pub map_of_exit : (ps : List PatPair) → e.form ≡ p.Map ps
        → OnOk r (Binds w0 w1 (λ U home sc. rules_of_pat_pairs U home sc (place_named U q) (all_pat_pairs ps)) (λ U home sc. with_pat_pairs (place_named U q) (all_pat_pairs ps) sc))
        → OnOk r (PatternBinds w0 w1 q (pattern_tree e))
    map_of_exit ps is = on_ok_weaker r (λ h. subst (PatternBinds w0 w1 q) (sym (map_of_pattern e ps is)) h)

    pub binary_of_exit : (ss : List PatSegment) → e.form ≡ p.Binary ss → OnOk r (Binds w0 w1 (λ U home sc. rules_of_pat_segments U home sc (all_pat_segments ss)) (λ U home sc. with_pat_segments (all_pat_segments ss) sc))
        → OnOk r (PatternBinds w0 w1 q (pattern_tree e))
    binary_of_exit ss is = on_ok_weaker r (λ h. subst (PatternBinds w0 w1 q) (sym (binary_of_pattern e ss is)) h)

    module _ (w2 : RuleWalk) where
      pub list_of_exit : (ps : List Pattern) (x : Pattern) → e.form ≡ p.Listed ps x → Binds w0 w1 (λ U home sc. rules_of_patterns U home sc (place_named U q) (all_patterns ps))
          (λ U home sc. with_patterns (place_named U q) (all_patterns ps) sc) → OnOk r (PatternBinds w1 w2 q (pattern_tree x)) → OnOk r (PatternBinds w0 w2 q (pattern_tree e))
      list_of_exit ps x is one = on_ok_weaker r (λ two. subst (PatternBinds w0 w2 q) (sym (list_of_pattern e ps x is))
          (binds_then w0 w1 w2 (λ U home sc. rules_of_patterns U home sc (place_named U q) (all_patterns ps)) (λ U home sc. rules_of_pattern U home sc (place_named U q) (pattern_tree x))
          (λ U home sc. with_patterns (place_named U q) (all_patterns ps) sc) (λ U home sc. with_pattern (place_named U q) (pattern_tree x) sc) one two))

      pub alias_exit : (x : VarName) (y : Pattern) → e.form ≡ p.Alias x y → Binds w0 w1 no_rules (λ U home sc. with_place x.name (place_named U q) sc) → OnOk r (PatternBinds w1 w2 q (pattern_tree y))
          → OnOk r (PatternBinds w0 w2 q (pattern_tree e))
      alias_exit x y is one = on_ok_weaker r (λ two. subst (PatternBinds w0 w2 q) (sym (alias_pattern e x y is))
          (binds_then w0 w1 w2 no_rules (λ U home sc. rules_of_pattern U home sc (place_named U q) (pattern_tree y)) (λ U home sc. with_place x.name (place_named U q) sc)
          (λ U home sc. with_pattern (place_named U q) (pattern_tree y) sc) one two))

pub ruleset pattern_exits = (equals_exit, binds_exit, tuple_of_exit, map_of_exit, binary_of_exit, list_of_exit, alias_exit)
