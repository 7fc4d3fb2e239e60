use Rattle.std.proofs.Common.{length, refl}
use Rattle.core_ast.specs.declared.syntax.PatForm.TheVariants as p
use Rattle.cons_gen_rows.proofs.PatternExits.{matches_variable, matches_literal, matches_list, matches_tuple, matches_map, matches_binary, matches_alias, matches_segment, cells_within}
use Rattle.cons_gen_rows.proofs.PatternRounds.{pairs_round}
use Rattle.cons_gen_rows.proofs.Reading.{read_one, read_two}
use Rattle.cons_gen_rows.proofs.patterns.+patterns.Goals as goal

pub walk_elements-elements-requires : goal.walk_elements-elements-requires
walk_elements-elements-requires t c =
    cells_within c.args.made.now c.take.new.self c.walk_each.new.made c.args.patterns.now
    (length c.args.patterns.now) c.inner_cells.result c.in_ok-cells.cells c.in_ok-slots.slots c.in_ok-cells.ensures.first c.in_ok-cells.ensures.taken refl c.inner_cells.ensures c.in_ok-slots.ensures.slots c.in_ok-slots.ensures.patterns

pub walk_pattern-returns-in-Var : goal.walk_pattern-returns-in-Var
walk_pattern-returns-in-Var t c = matches_variable c.pattern_variable.result c.args.made.now c.pattern_variable.new.self c.args.matched c.args.pattern.now c.in-Var.name c.in-Var.is c.pattern_variable.ensures

pub walk_pattern-returns-in-Lit : goal.walk_pattern-returns-in-Lit
walk_pattern-returns-in-Lit t c = matches_literal c.literal_value.result c.args.made.now c.literal_value.new.self c.args.matched c.args.pattern.now c.in-Lit.literal c.in-Lit.is c.literal_value.ensures

pub walk_pattern-returns-in_ok-elements-in-Listed : goal.walk_pattern-returns-in_ok-elements-in-Listed
walk_pattern-returns-in_ok-elements-in-Listed t c =
    matches_list c.walk_tail.result c.args.made.now c.walk_elements.new.made c.args.matched c.args.pattern.now c.walk_tail.new.made c.as_slice.result.now c.get.result.now c.in_ok-elements-in-Listed.elements.cells
    c.in_ok-elements-in-Listed.elements.slots
    (read_two p.Listed c.in-Listed.is c.as_slice.ensures c.get.ensures) c.in_ok-elements-in-Listed.ensures.cells c.in_ok-elements-in-Listed.ensures.slots c.in_ok-elements-in-Listed.ensures.patterns c.walk_tail.ensures

pub walk_pattern-returns-in_ok-slots-in-Tuple : goal.walk_pattern-returns-in_ok-slots-in-Tuple
walk_pattern-returns-in_ok-slots-in-Tuple t c =
    matches_tuple c.add.result c.args.made.now c.walk_each.new.made c.args.matched c.args.pattern.now c.add.new.self c.as_slice-in-Tuple.result.now c.in_ok-slots-in-Tuple.slots
    (read_one p.Tuple c.in-Tuple.is c.as_slice-in-Tuple.ensures) c.in_ok-slots-in-Tuple.ensures.slots c.in_ok-slots-in-Tuple.ensures.patterns c.add.ensures

pub walk_pattern-returns-in_ok-bound-in-Map : goal.walk_pattern-returns-in_ok-bound-in-Map
walk_pattern-returns-in_ok-bound-in-Map t c =
    matches_map c.walk_pairs.result c.args.made.now c.bound.new.self c.args.matched c.args.pattern.now c.walk_pairs.new.made c.as_slice-in-Map.result.now c.kind.result
    (read_one p.Map c.in-Map.is c.as_slice-in-Map.ensures) c.kind.ensures.value c.in_ok-bound-in-Map.ensures c.walk_pairs.ensures

pub walk_pattern-returns-in_ok-bound-in-Binary : goal.walk_pattern-returns-in_ok-bound-in-Binary
walk_pattern-returns-in_ok-bound-in-Binary t c =
    matches_binary c.walk_segments.result c.args.made.now c.bound-in-Binary.new.self c.args.matched c.args.pattern.now c.walk_segments.new.made c.as_slice-in-Binary.result.now c.kind-in-Binary.result
    (read_one p.Binary c.in-Binary.is c.as_slice-in-Binary.ensures) c.kind-in-Binary.ensures.value c.in_ok-bound-in-Binary.ensures c.walk_segments.ensures

pub walk_pattern-returns-in_ok-pattern_variable-in-Alias : goal.walk_pattern-returns-in_ok-pattern_variable-in-Alias
walk_pattern-returns-in_ok-pattern_variable-in-Alias t c =
    matches_alias c.walk_pattern.result c.args.made.now c.pattern_variable-in-Alias.new.self c.args.matched c.args.pattern.now c.walk_pattern.new.made c.in-Alias.var c.get-in-Alias.result.now
    (read_two p.Alias c.in-Alias.is refl c.get-in-Alias.ensures) c.in_ok-pattern_variable-in-Alias.ensures c.walk_pattern.ensures

pub walk_segment-returns : goal.walk_segment-returns
walk_segment-returns t c =
    matches_segment c.walk_pattern.result c.args.made.now c.take.new.self c.segment_value.new.self c.walk_pattern.new.made c.args.segment.now c.in_ok-slot.slot c.as_slice.result.now c.in_ok-slot.ensures.first c.in_ok-slot.ensures.taken
    c.as_slice.ensures c.in_ok-segment_value.ensures c.walk_pattern.ensures

pub walk_pairs-loop-pair-preserved : goal.walk_pairs-loop-pair-preserved
walk_pairs-loop-pair-preserved t c = pairs_round c.args.made.now c.loop-pair.made c.walk_own.new.made _ _ _ c.args.pairs.now c.loop-pair.pair-index c.pair-item.result c.loop-pair-test.true c.pair-item.is c.in_ok-walk_own.ensures.pattern
    c.loop-pair.invariant
