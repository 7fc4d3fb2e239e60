-- What patterns add. A pattern stands at the slot of the value that it is matched with; an outermost pattern of a clause at
-- its argument's, the pattern of an alias at the alias's, and every other at one of its own, which comes before those of its
-- parts. The arguments of segments and the keys of maps add nothing.
use Rattle.std.specs.Prelude.{ℕ, ◌+◌, List, [], ◌∷◌, ◌++◌}
use Rattle.type_lattice.specs.Kinds.{of_kind}
use Rattle.type_lattice.specs.declared.kinds.Kind.TheVariants.{Bitstring, Map}
use Rattle.core_ast.specs.Model as m
use Rattle.core_ast.specs.Lengths.{how_many_patterns}
use Rattle.core_scope.specs.Segments.{SegmentKind, integers, floats, bit_strings, anything, segment_kind}
use Rattle.cons_tree.specs.Constraints.{only}
use Rattle.cons_tree.specs.Named as named
use Rattle.cons_tree.specs.declared.parts.Part.TheVariants.{Tuple}
use Rattle.cons_gen_rows.specs.Scopes.{Binding, binding}
use Rattle.cons_gen_rows.specs.Words.{Rows, bound, equal, list_rows, inner_cells, literal_type}

-- ---- slots

abbrev mutual
  -- how many slots a pattern has behind the one at which it stands
  pub pattern_span : m.Pattern → ℕ
  pattern_span (m.binds i x) = 1
  pattern_span (m.equals i l) = 0
  pattern_span (m.list_of i ps p) = inner_cells (how_many_patterns ps) + pattern_spans ps + (1 + pattern_span p)
  pattern_span (m.tuple_of i ps) = pattern_spans ps
  pattern_span (m.map_of i ps) = pat_pair_spans ps
  pattern_span (m.binary_of i ss) = pat_segment_spans ss
  pattern_span (m.alias i x p) = 1 + pattern_span p

  pub pattern_spans : m.Patterns → ℕ
  pattern_spans m.no_pattern = 0
  pattern_spans (m.and_pattern p ps) = 1 + pattern_span p + pattern_spans ps

  pub pat_pair_spans : m.PatPairs → ℕ
  pat_pair_spans m.no_pat_pair = 0
  pat_pair_spans (m.and_pat_pair t p ps) = 1 + pattern_span p + pat_pair_spans ps

  pub pat_segment_spans : m.PatSegments → ℕ
  pat_segment_spans m.no_pat_segment = 0
  pat_segment_spans (m.and_pat_segment p ts ss) = 1 + pattern_span p + pat_segment_spans ss

-- the slots at which the patterns of a list or a tuple stand
abbrev pub pattern_slots : ℕ → m.Patterns → List ℕ
pattern_slots s m.no_pattern = []
pattern_slots s (m.and_pattern p ps) = s ∷ pattern_slots (s + 1 + pattern_span p) ps

-- how many slots the outermost patterns of a clause have
abbrev pub outer_span : m.Patterns → ℕ
outer_span m.no_pattern = 0
outer_span (m.and_pattern p ps) = pattern_span p + outer_span ps

-- ---- variables

abbrev mutual
  -- the variables of a pattern with their slots, in the order of the text, where its slots begin at s
  pub pattern_bindings : ℕ → m.Pattern → List Binding
  pattern_bindings s (m.binds i x) = binding x s
  pattern_bindings s (m.equals i l) = []
  pattern_bindings s (m.list_of i ps p) =
      let first = s + inner_cells (how_many_patterns ps) in
      patterns_bindings first ps ++ pattern_bindings (first + pattern_spans ps + 1) p
  pattern_bindings s (m.tuple_of i ps) = patterns_bindings s ps
  pattern_bindings s (m.map_of i ps) = pat_pairs_bindings s ps
  pattern_bindings s (m.binary_of i ss) = pat_segments_bindings s ss
  pattern_bindings s (m.alias i x p) = binding x.name s ++ pattern_bindings (s + 1) p

  pub patterns_bindings : ℕ → m.Patterns → List Binding
  patterns_bindings s m.no_pattern = []
  patterns_bindings s (m.and_pattern p ps) = pattern_bindings (s + 1) p ++ patterns_bindings (s + 1 + pattern_span p) ps

  pub pat_pairs_bindings : ℕ → m.PatPairs → List Binding
  pat_pairs_bindings s m.no_pat_pair = []
  pat_pairs_bindings s (m.and_pat_pair t p ps) = pattern_bindings (s + 1) p ++ pat_pairs_bindings (s + 1 + pattern_span p) ps

  pub pat_segments_bindings : ℕ → m.PatSegments → List Binding
  pat_segments_bindings s m.no_pat_segment = []
  pat_segments_bindings s (m.and_pat_segment p ts ss) = pattern_bindings (s + 1) p ++ pat_segments_bindings (s + 1 + pattern_span p) ss

-- those of the outermost patterns of a clause
abbrev pub outer_bindings : ℕ → m.Patterns → List Binding
outer_bindings s m.no_pattern = []
outer_bindings s (m.and_pattern p ps) = pattern_bindings s p ++ outer_bindings (s + pattern_span p) ps

-- ---- rows

-- what the slot of a segment may hold, by the segment's third argument
abbrev pub segment_rows : ℕ → SegmentKind → Rows
segment_rows s integers = bound s named.integers
segment_rows s floats = bound s named.floats
segment_rows s bit_strings = bound s (of_kind Bitstring)
segment_rows s anything = []

abbrev mutual
  -- a pattern that is matched with the value of slot r, and whose slots begin at s
  pub pattern_rows : (r s : ℕ) → m.Pattern → Rows
  pattern_rows r s (m.binds i x) = equal r s
  pattern_rows r s (m.equals i l) = bound r (literal_type l)
  pattern_rows r s (m.list_of i ps p) =
      let first = s + inner_cells (how_many_patterns ps) in
      let rest = first + pattern_spans ps in
      patterns_rows first ps ++ pattern_rows rest (rest + 1) p ++ list_rows r s (pattern_slots first ps) rest
  pattern_rows r s (m.tuple_of i ps) = patterns_rows s ps ++ only (Tuple r (pattern_slots s ps)) ∷ []
  pattern_rows r s (m.map_of i ps) = bound r (of_kind Map) ++ pat_pairs_rows s ps
  pattern_rows r s (m.binary_of i ss) = bound r (of_kind Bitstring) ++ pat_segments_rows s ss
  pattern_rows r s (m.alias i x p) = equal r s ++ pattern_rows r (s + 1) p

  pub patterns_rows : ℕ → m.Patterns → Rows
  patterns_rows s m.no_pattern = []
  patterns_rows s (m.and_pattern p ps) = pattern_rows s (s + 1) p ++ patterns_rows (s + 1 + pattern_span p) ps

  pub pat_pairs_rows : ℕ → m.PatPairs → Rows
  pat_pairs_rows s m.no_pat_pair = []
  pat_pairs_rows s (m.and_pat_pair t p ps) = pattern_rows s (s + 1) p ++ pat_pairs_rows (s + 1 + pattern_span p) ps

  pub pat_segments_rows : ℕ → m.PatSegments → Rows
  pat_segments_rows s m.no_pat_segment = []
  pat_segments_rows s (m.and_pat_segment p ts ss) = segment_rows s (segment_kind ts) ++ pattern_rows s (s + 1) p ++ pat_segments_rows (s + 1 + pattern_span p) ss

-- the outermost patterns of a clause, at the slots of its arguments
abbrev pub outer_rows : List ℕ → ℕ → m.Patterns → Rows
outer_rows qs s m.no_pattern = []
outer_rows [] s (m.and_pattern p ps) = []
outer_rows (q ∷ qs) s (m.and_pattern p ps) = pattern_rows q s p ++ outer_rows qs (s + pattern_span p) ps
