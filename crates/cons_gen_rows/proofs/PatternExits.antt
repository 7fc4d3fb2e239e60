-- The walk through patterns: what each way out of it says.
use Rattle.std.proofs.Common.{◌≡◌, ℕ, suc, ◌+◌, ◌≤◌, List, [], ◌∷◌, ◌++◌, length, take, map, None, Result, OnOk, refl, sym, ap, ◌∙◌, subst, append_assoc, arith}
use Rattle.std.proofs.Math.Seq.{take-append_seam}
use Rattle.std.proofs.lemmas.Result.{on_ok_weaker}
use Rattle.std.proofs.lemmas.List.{append-nil}
use Rattle.type_kinds.specs.declared.atom.Atom.{Atom}
use Rattle.type_kinds.specs.declared.memory.Memory.{Memory}
use Rattle.type_lattice.specs.Types.{Type4}
use Rattle.type_lattice.specs.Kinds.{of_kind}
use Rattle.type_lattice.specs.declared.kinds.Kind.TheVariants.{Bitstring, Map}
use Rattle.core_ast.specs.declared.syntax.VarName.{VarName}
use Rattle.core_ast.specs.declared.syntax.Literal.{Literal}
use Rattle.core_ast.specs.declared.syntax.Expr.{Expr}
use Rattle.core_ast.specs.declared.syntax.Pattern.{Pattern}
use Rattle.core_ast.specs.declared.syntax.PatPair.{PatPair}
use Rattle.core_ast.specs.declared.syntax.PatSegment.{PatSegment, out-PatSegment}
use Rattle.core_ast.specs.declared.syntax.PatForm.TheVariants as p
use Rattle.core_ast.specs.Model as m
use Rattle.core_ast.specs.Lengths.{how_many_patterns}
use Rattle.core_ast.specs.Tree.{all_trees, pattern_tree, all_patterns, all_pat_pairs, all_pat_segments, pat_segment_parts}
use Rattle.core_ast.proofs.Forms.{binds_pattern, equals_pattern, list_of_pattern, tuple_of_pattern, map_of_pattern, binary_of_pattern, alias_pattern}
use Rattle.core_ast.proofs.Items.{how_many_patterns-length}
use Rattle.core_ast.proofs.Trees.{pat_segment-is}
use Rattle.core_scope.specs.Segments.{segment_kind, third}
use Rattle.cons_tree.specs.Constraints.{only, constraint}
use Rattle.cons_tree.specs.declared.parts.Part.TheVariants.{Tuple}
use Rattle.cons_gen_rows.specs.Patterns.{pattern_bindings, pattern_rows, pattern_slots, pattern_span, pattern_spans, patterns_bindings, patterns_rows, pat_pair_spans}
use Rattle.cons_gen_rows.specs.Patterns.{pat_pairs_bindings, pat_pairs_rows, pat_segment_spans, pat_segments_bindings, pat_segments_rows, segment_rows}
use Rattle.cons_gen_rows.specs.Scopes.{binding}
use Rattle.cons_gen_rows.specs.Walking.{Adds, Binds, rows_of}
use Rattle.cons_gen_rows.specs.Words.{Rows, bound, equal, inner_cells, list_rows, literal_type}
use Rattle.cons_gen_rows.specs.steps.Matching.{Matches}
use Rattle.cons_gen_rows.specs.declared.generator.Generator.{Generator}
use Rattle.cons_gen_rows.proofs.Adding.{adds_binds, binds_adds, binds_as, binds_none, binds_then, mapped_length, take_map}

-- ---- the forms

module _ (r : Result (Unit {0}) Memory) (a b : Generator) (q : ℕ) (e : Pattern) where
  pub matches_variable : (x : Atom) → e.form ≡ p.Var x → OnOk r (Binds a b 1 (equal q a.next) (binding x a.next)) → OnOk r (Matches a b q (pattern_tree e))
  matches_variable x is = on_ok_weaker r (subst (Matches a b q) (sym (binds_pattern e x is)))

  pub matches_literal : (x : Literal) → e.form ≡ p.Lit x → OnOk r (Adds a b 0 (bound q (literal_type x))) → OnOk r (Matches a b q (pattern_tree e))
  matches_literal x is = on_ok_weaker r (λ h. subst (Matches a b q) (sym (equals_pattern e x is)) (binds_none a b 0 (bound q (literal_type x)) h))

  module _ (c : Generator) where
    pub matches_tuple : (ps : List Pattern) (slots : List ℕ) → e.form ≡ p.Tuple ps → slots ≡ pattern_slots a.next (all_patterns ps)
        → Binds a b (pattern_spans (all_patterns ps)) (patterns_rows a.next (all_patterns ps)) (patterns_bindings a.next (all_patterns ps))
        → OnOk r (Adds b c 0 (only (Tuple q slots) ∷ [])) → OnOk r (Matches a c q (pattern_tree e))
    matches_tuple ps slots is slots_are one = on_ok_weaker r (λ two.
        let ts : m.Patterns = all_patterns ps in
        subst (Matches a c q) (sym (tuple_of_pattern e ps is))
        (binds_adds a b c (pattern_spans ts) 0 (pattern_spans ts) (a.next + pattern_spans ts) (patterns_rows a.next ts) (λ sc k. only (Tuple q (pattern_slots a.next ts)) ∷ []) (patterns_bindings a.next ts) one
        (subst (λ ss. Adds b c 0 (only (Tuple q ss) ∷ [])) slots_are two) refl (omega arith)))

    pub matches_map : (ps : List PatPair) (t : Type4) → e.form ≡ p.Map ps → t ≡ of_kind Map → Adds a b 0 (bound q t)
        → OnOk r (Binds b c (pat_pair_spans (all_pat_pairs ps)) (pat_pairs_rows b.next (all_pat_pairs ps)) (pat_pairs_bindings b.next (all_pat_pairs ps))) → OnOk r (Matches a c q (pattern_tree e))
    matches_map ps t is type_is one = on_ok_weaker r (λ two.
        let ts : m.PatPairs = all_pat_pairs ps in
        subst (Matches a c q) (sym (map_of_pattern e ps is))
        (adds_binds a b c 0 (pat_pair_spans ts) (pat_pair_spans ts) a.next (bound q (of_kind Map)) (λ sc k. pat_pairs_rows k ts) (λ k. pat_pairs_bindings k ts) (subst (λ u. Adds a b 0 (bound q u)) type_is one) two (omega arith)
        (omega arith)))

    pub matches_binary : (ss : List PatSegment) (t : Type4) → e.form ≡ p.Binary ss → t ≡ of_kind Bitstring → Adds a b 0 (bound q t)
        → OnOk r (Binds b c (pat_segment_spans (all_pat_segments ss)) (pat_segments_rows b.next (all_pat_segments ss)) (pat_segments_bindings b.next (all_pat_segments ss)))
        → OnOk r (Matches a c q (pattern_tree e))
    matches_binary ss t is type_is one = on_ok_weaker r (λ two.
        let ts : m.PatSegments = all_pat_segments ss in
        subst (Matches a c q) (sym (binary_of_pattern e ss is))
        (adds_binds a b c 0 (pat_segment_spans ts) (pat_segment_spans ts) a.next (bound q (of_kind Bitstring)) (λ sc k. pat_segments_rows k ts) (λ k. pat_segments_bindings k ts) (subst (λ u. Adds a b 0 (bound q u)) type_is one) two
        (omega arith) (omega arith)))

    pub matches_alias : (v : VarName) (y : Pattern) → e.form ≡ p.Alias v y → Binds a b 1 (equal q a.next) (binding v.name a.next) → OnOk r (Matches b c q (pattern_tree y)) → OnOk r (Matches a c q (pattern_tree e))
    matches_alias v y is one = on_ok_weaker r (λ two.
        let t : m.Pattern = pattern_tree y in
        subst (Matches a c q) (sym (alias_pattern e v y is))
        (binds_then a b c 1 (pattern_span t) (1 + pattern_span t) (a.next + 1) (equal q a.next) (λ sc k. pattern_rows q k t) (binding v.name a.next) (λ k. pattern_bindings k t) one two refl refl))

    pub matches_list : (ps : List Pattern) (y : Pattern) (cells : ℕ) (slots : List ℕ) → e.form ≡ p.Listed ps y → cells ≡ a.next → slots ≡ pattern_slots (a.next + inner_cells (length ps)) (all_patterns ps)
        → Binds a b (inner_cells (length ps) + pattern_spans (all_patterns ps)) (patterns_rows (a.next + inner_cells (length ps)) (all_patterns ps)) (patterns_bindings (a.next + inner_cells (length ps)) (all_patterns ps))
        → OnOk r (Binds b c (1 + pattern_span (pattern_tree y)) (pattern_rows b.next (b.next + 1) (pattern_tree y) ++ list_rows q cells slots b.next) (pattern_bindings (b.next + 1) (pattern_tree y)))
        → OnOk r (Matches a c q (pattern_tree e))
    matches_list ps y cells slots is cells_are slots_are one = on_ok_weaker r (λ two.
        let ts : m.Patterns = all_patterns ps in
        let t : m.Pattern = pattern_tree y in
        let n : ℕ = inner_cells (length ps) in
        let first : ℕ = a.next + n in
        let rest : ℕ = first + pattern_spans ts in
        let tail : ℕ → Rows = λ k. pattern_rows k (k + 1) t ++ list_rows q a.next (pattern_slots first ts) k in
        let same : (λ (k : ℕ). pattern_rows k (k + 1) t ++ list_rows q cells slots k) ≡ tail =
        ap (λ z. λ (k : ℕ). pattern_rows k (k + 1) t ++ list_rows q z slots k) cells_are ∙ ap (λ z. λ (k : ℕ). pattern_rows k (k + 1) t ++ list_rows q a.next z k) slots_are in
        let whole : Binds a c (n + pattern_spans ts + (1 + pattern_span t)) (patterns_rows first ts ++ tail rest) (patterns_bindings first ts ++ pattern_bindings (rest + 1) t) =
        binds_then a b c (n + pattern_spans ts) (1 + pattern_span t) (n + pattern_spans ts + (1 + pattern_span t)) rest (patterns_rows first ts) (λ sc k. tail k) (patterns_bindings first ts) (λ k. pattern_bindings (k + 1) t) one
        (subst (λ f. Binds b c (1 + pattern_span t) (f b.next) (pattern_bindings (b.next + 1) t)) same two) (omega arith) refl in
        subst (Matches a c q) (sym (list_of_pattern e ps y is))
        (subst (λ k. Binds a c (inner_cells k + pattern_spans ts + (1 + pattern_span t))
        (patterns_rows (a.next + inner_cells k) ts ++ pattern_rows (a.next + inner_cells k + pattern_spans ts) (a.next + inner_cells k + pattern_spans ts + 1) t
        ++ list_rows q a.next (pattern_slots (a.next + inner_cells k) ts) (a.next + inner_cells k + pattern_spans ts))
        (patterns_bindings (a.next + inner_cells k) ts ++ pattern_bindings (a.next + inner_cells k + pattern_spans ts + 1) t)) (sym (how_many_patterns-length ps))
        (binds_as a c _ _ _ _ _ _ refl (sym (append_assoc (patterns_rows first ts) (pattern_rows rest (rest + 1) t) (list_rows q a.next (pattern_slots first ts) rest))) refl whole)))

-- one segment
pub segment_opened : (x : PatSegment) (rest : m.PatSegments) → (let s = pat_segment_parts x in m.and_pat_segment s.value s.args rest) ≡ m.and_pat_segment (pattern_tree (out-PatSegment x).value) (all_trees (out-PatSegment x).args) rest
segment_opened x rest = ap (λ s. m.and_pat_segment s.value s.args rest) (pat_segment-is x)

pub matches_segment : (r : Result (Unit {0}) Memory) (a b c d : Generator) (x : PatSegment) (slot : ℕ) (args : List Expr) → slot ≡ a.next → Adds a b 1 [] → args ≡ (out-PatSegment x).args
    → Adds b c 0 (segment_rows slot (segment_kind (all_trees args)))
    → OnOk r (Matches c d slot (pattern_tree (out-PatSegment x).value)) → OnOk r
    (Binds a d (pat_segment_spans (all_pat_segments (x ∷ []))) (pat_segments_rows a.next (all_pat_segments (x ∷ []))) (pat_segments_bindings a.next (all_pat_segments (x ∷ []))))
matches_segment r a b c d x slot args is one args_are two = on_ok_weaker r (λ three.
    let t : m.Pattern = pattern_tree (out-PatSegment x).value in
    let ts : m.Trees = all_trees (out-PatSegment x).args in
    let kind_rows : Rows = segment_rows a.next (segment_kind ts) in
    let alone : m.PatSegments = m.and_pat_segment t ts m.no_pat_segment in
    let both : Adds a c 1 kind_rows =
    (let two1 : Adds b c 0 kind_rows = subst (λ z. Adds b c 0 (segment_rows z (segment_kind ts))) is (subst (λ z. Adds b c 0 (segment_rows slot (segment_kind (all_trees z)))) args_are two) in
    record {
      next = two1.next ∙ ap (λ k. k + 0) one.next ∙ (let e : a.next + 1 + 0 ≡ a.next + 1 = omega arith in e);
      rows = two1.rows ∙ ap (λ l. l ++ kind_rows) (one.rows ∙ append-nil (rows_of a));
      variables = two1.variables ∙ one.variables;
      functions = two1.functions ∙ one.functions;
    }) in
    let whole : Binds a d (1 + pattern_span t) (kind_rows ++ pattern_rows a.next (a.next + 1) t) (pattern_bindings (a.next + 1) t) =
    adds_binds a c d 1 (pattern_span t) (1 + pattern_span t) (a.next + 1) kind_rows (λ sc k. pattern_rows a.next k t) (λ k. pattern_bindings k t) both
    (subst (λ s. Binds c d (pattern_span t) (pattern_rows s c.next t) (pattern_bindings c.next t)) is three) refl refl in
    subst (λ z. Binds a d (pat_segment_spans z) (pat_segments_rows a.next z) (pat_segments_bindings a.next z)) (sym (segment_opened x m.no_pat_segment))
    (binds_as a d _ (pat_segment_spans alone) _ (pat_segments_rows a.next alone) _ (pat_segments_bindings a.next alone) (omega arith) (sym (append-nil _)) (sym (append-nil _)) whole))

-- ---- segments' types

pub no_third : (es : List Expr) → length es ≤ 2 → third (all_trees es) ≡ None
no_third [] past = refl
no_third (e ∷ []) past = refl
no_third (e ∷ f ∷ []) past = refl
no_third (e ∷ f ∷ g ∷ es) past = absurd (omega arith)

-- ---- outermost patterns

-- only the slots and the variables of a pattern
pub skipped : (a b c : Generator) (count q : ℕ) (t : m.Pattern) → count ≡ length a.members.items → Matches a b q t → c.next ≡ b.next → c.members.items ≡ take count b.members.items → c.variables ≡ b.variables
    → c.functions ≡ b.functions → Binds a c (pattern_span t) [] (pattern_bindings a.next t)
skipped a b c count q t is h next members variables functions = record {
  next = next ∙ h.next;
  rows = ap (map constraint) members ∙ take_map constraint count b.members.items ∙ ap (λ k. take k (rows_of b)) (is ∙ sym (mapped_length constraint a.members.items)) ∙ ap (take (length (rows_of a))) h.rows
      ∙ take-append_seam (rows_of a) (pattern_rows q a.next t) ∙ sym (append-nil (rows_of a));
  variables = variables ∙ h.variables;
  functions = functions ∙ h.functions;
}

-- the slots of a list's elements are as many as these
pub slots_length : (s : ℕ) (ts : m.Patterns) → length (pattern_slots s ts) ≡ how_many_patterns ts
slots_length s m.no_pattern = refl
slots_length s (m.and_pattern t ts) = ap suc (slots_length (s + 1 + pattern_span t) ts) ∙ (let e : suc (how_many_patterns ts) ≡ how_many_patterns ts + 1 = omega arith in e)

pub cells_within : (a b c : Generator) (ps : List Pattern) (n inner cells : ℕ) (slots : List ℕ) → cells ≡ a.next → Adds a b inner [] → n ≡ length ps → inner ≡ inner_cells n
    → slots ≡ pattern_slots b.next (all_patterns ps)
    → Binds b c (pattern_spans (all_patterns ps)) (patterns_rows b.next (all_patterns ps)) (patterns_bindings b.next (all_patterns ps)) → cells + inner_cells (length slots) ≤ c.next
cells_within a b c ps n inner cells slots cells_are one count inner_is slots_are two =
    let many : length slots ≡ length ps = ap length slots_are ∙ slots_length _ (all_patterns ps) ∙ how_many_patterns-length ps in
    let same : inner_cells (length slots) ≡ inner = ap inner_cells (many ∙ sym count) ∙ sym inner_is in
    let next : b.next ≡ a.next + inner = one.next in
    let further : c.next ≡ b.next + pattern_spans (all_patterns ps) = two.next in
    omega arith
