-- The walk through patterns: what each round keeps, and each way out.
use Rattle.std.proofs.Common.{◌≡◌, ℕ, ◌+◌, ◌<◌, ◌≤◌, List, ◌++◌, OnOk, length, drop, get_or, sym, ap, ◌∙◌, subst, arith, length-append}
use Rattle.std.proofs.lemmas.List.{take-append-drop, take-append-le, drop-append-le, append_assoc, append-nil}
use Rattle.std.proofs.lemmas.Result.{on_ok_weaker}
use Rattle.type_kinds.specs.declared.atom.Atom.{Atom}
use Rattle.core_ast.specs.declared.syntax.VarName.{VarName}
use Rattle.core_ast.specs.declared.syntax.Literal.{Literal}
use Rattle.core_ast.specs.declared.syntax.Expr.{Expr}
use Rattle.core_ast.specs.declared.syntax.Pattern.{Pattern}
use Rattle.core_ast.specs.declared.syntax.PatPair.{PatPair}
use Rattle.core_ast.specs.declared.syntax.PatSegment.{PatSegment, out-PatSegment}
use Rattle.core_ast.specs.declared.syntax.PatForm.TheVariants as p
use Rattle.core_ast.specs.Model as m
use Rattle.core_ast.specs.Tree.{tree, pattern_tree, pat_pair_parts, pat_segment_parts, all_trees, all_patterns, all_pat_pairs, all_pat_segments}
use Rattle.core_ast.proofs.Forms.{binds_pattern, equals_pattern, list_of_pattern, tuple_of_pattern, map_of_pattern, binary_of_pattern, alias_pattern}
use Rattle.core_ast.proofs.Trees.{pat_pair-is, pat_segment-is}
use Rattle.core_ast.proofs.Items.{all_patterns-next, all_pat_pairs-next, all_pat_segments-next}
use Rattle.core_scope.specs.declared.fault.Break.{Break}
use Rattle.core_scope.specs.declared.walk.Walk.{Walk}
use Rattle.core_scope.specs.Names.{Scope, bound, pattern_bound, patterns_bound, pairs_bound, segments_bound, with_variables}
use Rattle.core_scope.specs.Asks.{one_value}
use Rattle.core_scope.specs.Breaks.{new_variable, breaks, all_breaks, pattern_breaks, patterns_breaks, pat_pair_breaks, pat_segment_breaks}
use Rattle.core_scope.specs.steps.State.{scope_of, scope_around, noting, binding}
use Rattle.core_scope.proofs.States.{bound_twice}
use Rattle.core_scope.proofs.ExpressionExits.{Answer}
use Rattle.core_scope.proofs.WalkExits.{noted_bound}

-- What stands in the scope of a clause, and behind its patterns so far.
abbrev pub Seen : Type 0
Seen = Scope → List Atom → List Break

abbrev pub seen : ℕ → Walk → Seen → List Break
seen from w rest = rest (scope_around from w) (drop from w.variables)

pub patterns_within : (from : ℕ) (w w1 : Walk) (xs : List Atom) (here : List Break) → from ≤ length w.variables → w1 ≡ binding w xs here → from ≤ length w1.variables
patterns_within from w w1 xs here within is = let e = ap (λ v. length v.variables) is in omega (arith, e, length-append w.variables xs)

-- What is met behind a pattern that binds these.
pub bound_next : (from : ℕ) (w w1 : Walk) (xs ys : List Atom) (here : List Break) (rest : Seen) → from ≤ length w.variables → w1 ≡ binding w xs here
    → binding w1 ys (seen from w1 rest) ≡ binding w (xs ++ ys) (here ++ rest (scope_around from w) (drop from w.variables ++ xs))
bound_next from w w1 xs ys here rest within is =
    ap (λ v. binding v ys (seen from v rest)) is
    ∙ ap (λ z. binding (binding w xs here) ys (rest (record { variables = z; functions = w.functions }) (drop from (w.variables ++ xs)))) (take-append-le from w.variables xs within)
    ∙ ap (λ z. binding (binding w xs here) ys (rest (scope_around from w) z)) (drop-append-le from w.variables xs within)
    ∙ bound_twice w xs ys here (rest (scope_around from w) (drop from w.variables ++ xs))

-- What is met behind an expression that sees all so far.
pub noted_next : (from : ℕ) (w w1 : Walk) (ys : List Atom) (here : List Break) (rest : Seen) → w1 ≡ noting w here → binding w1 ys (seen from w1 rest) ≡ binding w ys (here ++ seen from w rest)
noted_next from w w1 ys here rest is = ap (λ v. binding v ys (seen from v rest)) is ∙ noted_bound w ys here (seen from w rest)

-- An expression among patterns sees the variables around the clause and those before it.
pub sees_before : (from : ℕ) (w : Walk) → scope_of w ≡ with_variables (scope_around from w) (drop from w.variables)
sees_before from w = sym (λ i. record { variables = take-append-drop from w.variables i; functions = w.functions })

-- ---- each form

module _ (from : ℕ) (w : Walk) (e : Pattern) where
  abbrev result : m.Pattern → Walk
  result q = binding w (pattern_bound q) (pattern_breaks (scope_around from w) (drop from w.variables) q)

  pub pattern_literal : (x : Literal) → e.form ≡ p.Lit x → w ≡ binding w (pattern_bound (pattern_tree e)) (pattern_breaks (scope_around from w) (drop from w.variables) (pattern_tree e))
  pattern_literal x is = sym (λ i. record { variables = append-nil w.variables i; functions = w.functions; first = w.first }) ∙ ap result (sym (equals_pattern e x is))

  module _ (r : Answer) (w1 : Walk) where
    pub pattern_variable : (x : Atom) → e.form ≡ p.Var x → OnOk r (w1 ≡ binding w (bound x) (new_variable (drop from w.variables) x e.mark.place))
        → OnOk r (w1 ≡ binding w (pattern_bound (pattern_tree e)) (pattern_breaks (scope_around from w) (drop from w.variables) (pattern_tree e)))
    pattern_variable x is = on_ok_weaker r (λ one. one ∙ ap result (sym (binds_pattern e x is)))

    pub pattern_tuple : (ps qs : List Pattern) → e.form ≡ p.Tuple ps → qs ≡ ps → OnOk r (w1 ≡ binding w (patterns_bound (all_patterns qs)) (patterns_breaks (scope_around from w) (drop from w.variables) (all_patterns qs)))
        → OnOk r (w1 ≡ binding w (pattern_bound (pattern_tree e)) (pattern_breaks (scope_around from w) (drop from w.variables) (pattern_tree e)))
    pattern_tuple ps qs is same = on_ok_weaker r (λ one. one ∙ ap (λ z. binding w (patterns_bound (all_patterns z)) (patterns_breaks (scope_around from w) (drop from w.variables) (all_patterns z))) same
        ∙ ap result (sym (tuple_of_pattern e ps is)))

    pub pattern_map : (ps qs : List PatPair) → e.form ≡ p.Map ps → qs ≡ ps → OnOk r (w1 ≡ binding w (pairs_bound (all_pat_pairs qs)) (pat_pair_breaks (scope_around from w) (drop from w.variables) (all_pat_pairs qs)))
        → OnOk r (w1 ≡ binding w (pattern_bound (pattern_tree e)) (pattern_breaks (scope_around from w) (drop from w.variables) (pattern_tree e)))
    pattern_map ps qs is same = on_ok_weaker r (λ one. one ∙ ap (λ z. binding w (pairs_bound (all_pat_pairs z)) (pat_pair_breaks (scope_around from w) (drop from w.variables) (all_pat_pairs z))) same
        ∙ ap result (sym (map_of_pattern e ps is)))

    pub pattern_binary : (ps qs : List PatSegment) → e.form ≡ p.Binary ps → qs ≡ ps
        → OnOk r (w1 ≡ binding w (segments_bound (all_pat_segments qs)) (pat_segment_breaks (scope_around from w) (drop from w.variables) (all_pat_segments qs)))
        → OnOk r (w1 ≡ binding w (pattern_bound (pattern_tree e)) (pattern_breaks (scope_around from w) (drop from w.variables) (pattern_tree e)))
    pattern_binary ps qs is same = on_ok_weaker r (λ one. one ∙ ap (λ z. binding w (segments_bound (all_pat_segments z)) (pat_segment_breaks (scope_around from w) (drop from w.variables) (all_pat_segments z))) same
        ∙ ap result (sym (binary_of_pattern e ps is)))

    module _ (w2 : Walk) (within : from ≤ length w.variables) where
      pub pattern_listed : (ps qs : List Pattern) (x y : Pattern) → e.form ≡ p.Listed ps x → qs ≡ ps
          → w1 ≡ binding w (patterns_bound (all_patterns qs)) (patterns_breaks (scope_around from w) (drop from w.variables) (all_patterns qs)) → y ≡ x
          → OnOk r (w2 ≡ binding w1 (pattern_bound (pattern_tree y)) (pattern_breaks (scope_around from w1) (drop from w1.variables) (pattern_tree y)))
          → OnOk r (w2 ≡ binding w (pattern_bound (pattern_tree e)) (pattern_breaks (scope_around from w) (drop from w.variables) (pattern_tree e)))
      pattern_listed ps qs x y is same one last = on_ok_weaker r (λ two. two
          ∙ bound_next from w w1 (patterns_bound (all_patterns qs)) (pattern_bound (pattern_tree y)) (patterns_breaks (scope_around from w) (drop from w.variables) (all_patterns qs))
          (λ s before. pattern_breaks s before (pattern_tree y)) within one
          ∙ ap (λ z. result (m.list_of e.mark (all_patterns z) (pattern_tree y))) same ∙ ap (λ z. result (m.list_of e.mark (all_patterns ps) (pattern_tree z))) last ∙ ap result (sym (list_of_pattern e ps x is)))

      pub pattern_alias : (v : VarName) (x y : Pattern) → e.form ≡ p.Alias v x → w1 ≡ binding w (bound v.name) (new_variable (drop from w.variables) v.name v.place) → y ≡ x
          → OnOk r (w2 ≡ binding w1 (pattern_bound (pattern_tree y)) (pattern_breaks (scope_around from w1) (drop from w1.variables) (pattern_tree y)))
          → OnOk r (w2 ≡ binding w (pattern_bound (pattern_tree e)) (pattern_breaks (scope_around from w) (drop from w.variables) (pattern_tree e)))
      pattern_alias v x y is one last = on_ok_weaker r (λ two. two
          ∙ bound_next from w w1 (bound v.name) (pattern_bound (pattern_tree y)) (new_variable (drop from w.variables) v.name v.place) (λ s before. pattern_breaks s before (pattern_tree y)) within one
          ∙ ap (λ z. result (m.alias e.mark v (pattern_tree z))) last ∙ ap result (sym (alias_pattern e v x is)))

pub ruleset pattern_exits = (pattern_literal, pattern_variable, pattern_tuple, pattern_map, pattern_binary, pattern_listed, pattern_alias)

-- ---- each round

pub patterns_round : (w w1 goal : Walk) (from : ℕ) (ps : List Pattern) (i : ℕ) (x : Pattern) → i < length ps → x ≡ get_or ps i x → from ≤ length w.variables
    → w1 ≡ binding w (pattern_bound (pattern_tree x)) (pattern_breaks (scope_around from w) (drop from w.variables) (pattern_tree x))
    → binding w (patterns_bound (all_patterns (drop i ps))) (patterns_breaks (scope_around from w) (drop from w.variables) (all_patterns (drop i ps))) ≡ goal
    → record { so_far : binding w1 (patterns_bound (all_patterns (drop (i + 1) ps))) (patterns_breaks (scope_around from w1) (drop from w1.variables) (all_patterns (drop (i + 1) ps))) ≡ goal; within : from ≤ length w1.variables }
patterns_round w w1 goal from ps i x inside is within step before = record {
  so_far =
      bound_next from w w1 (pattern_bound (pattern_tree x)) (patterns_bound (all_patterns (drop (i + 1) ps))) (pattern_breaks (scope_around from w) (drop from w.variables) (pattern_tree x))
      (λ s b. patterns_breaks s b (all_patterns (drop (i + 1) ps))) within step
      ∙ ap (λ q. binding w (patterns_bound q) (patterns_breaks (scope_around from w) (drop from w.variables) q))
      (sym (all_patterns-next ps i x inside ∙ ap (λ z. m.and_pattern (pattern_tree z) (all_patterns (drop (i + 1) ps))) (sym is)))
      ∙ before;
  within = patterns_within from w w1 (pattern_bound (pattern_tree x)) (pattern_breaks (scope_around from w) (drop from w.variables) (pattern_tree x)) within step;
}

pub pat_pairs_round : (w w1 w2 goal : Walk) (from : ℕ) (ps : List PatPair) (i : ℕ) (x : PatPair) → i < length ps → x ≡ get_or ps i x → from ≤ length w.variables
    → w1 ≡ noting w (breaks (scope_of w) one_value (tree x.key))
    → w2 ≡ binding w1 (pattern_bound (pattern_tree x.value)) (pattern_breaks (scope_around from w1) (drop from w1.variables) (pattern_tree x.value))
    → binding w (pairs_bound (all_pat_pairs (drop i ps))) (pat_pair_breaks (scope_around from w) (drop from w.variables) (all_pat_pairs (drop i ps))) ≡ goal
    → record { so_far : binding w2 (pairs_bound (all_pat_pairs (drop (i + 1) ps))) (pat_pair_breaks (scope_around from w2) (drop from w2.variables) (all_pat_pairs (drop (i + 1) ps))) ≡ goal; within : from ≤ length w2.variables }
pat_pairs_round w w1 w2 goal from ps i x inside is within one two before =
    let rest : m.PatPairs = all_pat_pairs (drop (i + 1) ps) in
    let q : m.Pattern = pattern_tree x.value in
    let xs : List Atom = pattern_bound q in
    let s : Scope = scope_around from w in
    let b : List Atom = drop from w.variables in
    let within1 : from ≤ length w1.variables = (let P : Walk → Type 0 = λ v. from ≤ length v.variables in subst P (sym one) within) in
    let here : List Break = breaks (with_variables s b) one_value (tree x.key) in
    let one1 : w1 ≡ noting w here = one ∙ ap (λ z. noting w (breaks z one_value (tree x.key))) (sees_before from w) in
    record {
      so_far =
          bound_next from w1 w2 xs (pairs_bound rest) (pattern_breaks (scope_around from w1) (drop from w1.variables) q) (λ s b. pat_pair_breaks s b rest) within1 two
          ∙ noted_next from w w1 (xs ++ pairs_bound rest) here (λ s b. pattern_breaks s b q ++ pat_pair_breaks s (b ++ xs) rest) one1
          ∙ ap (binding w (xs ++ pairs_bound rest)) (sym (append_assoc here (pattern_breaks s b q) (pat_pair_breaks s (b ++ xs) rest)))
          ∙ ap (λ l. binding w (pairs_bound l) (pat_pair_breaks s b l))
          (sym (all_pat_pairs-next ps i x inside ∙ ap (λ z. let y = pat_pair_parts z in m.and_pat_pair y.key y.value rest) (sym is) ∙ ap (λ y. m.and_pat_pair y.key y.value rest) (pat_pair-is x)))
          ∙ before;
      within = patterns_within from w1 w2 xs (pattern_breaks (scope_around from w1) (drop from w1.variables) q) within1 two;
    }

pub pat_segments_round : (w w1 w2 goal : Walk) (from : ℕ) (ss : List PatSegment) (i : ℕ) (x : PatSegment) (args : List Expr) → i < length ss → x ≡ get_or ss i x → from ≤ length w.variables
    → w1 ≡ binding w (pattern_bound (pattern_tree (out-PatSegment x).value)) (pattern_breaks (scope_around from w) (drop from w.variables) (pattern_tree (out-PatSegment x).value)) → args ≡ (out-PatSegment x).args
    → w2 ≡ noting w1 (all_breaks (scope_of w1) (all_trees args))
    → binding w (segments_bound (all_pat_segments (drop i ss))) (pat_segment_breaks (scope_around from w) (drop from w.variables) (all_pat_segments (drop i ss))) ≡ goal
    → record {
      so_far : binding w2 (segments_bound (all_pat_segments (drop (i + 1) ss))) (pat_segment_breaks (scope_around from w2) (drop from w2.variables) (all_pat_segments (drop (i + 1) ss))) ≡ goal;
      within : from ≤ length w2.variables;
    }
pat_segments_round w w1 w2 goal from ss i x args inside is within one args_are two before =
    let rest : m.PatSegments = all_pat_segments (drop (i + 1) ss) in
    let q : m.Pattern = pattern_tree (out-PatSegment x).value in
    let xs : List Atom = pattern_bound q in
    let ts : m.Trees = all_trees (out-PatSegment x).args in
    let s : Scope = scope_around from w in
    let b : List Atom = drop from w.variables in
    let within1 : from ≤ length w1.variables = patterns_within from w w1 xs (pattern_breaks s b q) within one in
    let here : List Break = all_breaks (with_variables (scope_around from w1) (drop from w1.variables)) ts in
    let two1 : w2 ≡ noting w1 here = two ∙ ap (λ z. noting w1 (all_breaks (scope_of w1) (all_trees z))) args_are ∙ ap (λ z. noting w1 (all_breaks z ts)) (sees_before from w1) in
    record {
      so_far =
          noted_next from w1 w2 (segments_bound rest) here (λ s b. pat_segment_breaks s b rest) two1
          ∙ bound_next from w w1 xs (segments_bound rest) (pattern_breaks s b q) (λ s b. all_breaks (with_variables s b) ts ++ pat_segment_breaks s b rest) within one
          ∙ ap (binding w (xs ++ segments_bound rest)) (sym (append_assoc (pattern_breaks s b q) (all_breaks (with_variables s (b ++ xs)) ts) (pat_segment_breaks s (b ++ xs) rest)))
          ∙ ap (λ l. binding w (segments_bound l) (pat_segment_breaks s b l)) (sym
          (all_pat_segments-next ss i x inside ∙ ap (λ z. let y = pat_segment_parts z in m.and_pat_segment y.value y.args rest) (sym is) ∙ ap (λ y. m.and_pat_segment y.value y.args rest) (pat_segment-is x)))
          ∙ before;
      within = (let P : Walk → Type 0 = λ v. from ≤ length v.variables in subst P (sym two1) within1);
    }
