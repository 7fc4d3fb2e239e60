use Rattle.std.proofs.Common.{◌+◌, ◌*◌, ◌<◌, ◌≤◌, length}
use Rattle.core_parse_grammar.specs.Grammar.{constant}
use Rattle.core_parse_grammar.specs.Readings.{ReadsConstantElements}
use Rattle.core_parse_grammar.proofs.Lists.{Before}
use Rattle.core_parse_grammar.proofs.ConstantListExits.{ElementsBefore}
use Rattle.core_parse_grammar.proofs.ConstantPartExits.{SegmentsBefore, PairsBefore}
use Rattle.core_parse_grammar.proofs.constants.+constants.Given as goal

abbrev pub decreases-constant : goal.decreases-constant
decreases-constant l = 4 * length l.tokens.now + 1

abbrev pub decreases-other_constant : goal.decreases-other_constant
decreases-other_constant l = 4 * length l.tokens.now

abbrev pub decreases-constant_list : goal.decreases-constant_list
decreases-constant_list l = 4 * length l.tokens.now

abbrev pub decreases-constant_elements : goal.decreases-constant_elements
decreases-constant_elements l = 4 * length l.first.rest.now + 3

abbrev pub decreases-constant_tail : goal.decreases-constant_tail
decreases-constant_tail l = 4 * length l.tokens.now + 1

abbrev pub decreases-constants : goal.decreases-constants
decreases-constants l = 4 * length l.tokens.now + 3

abbrev pub decreases-constant_segments : goal.decreases-constant_segments
decreases-constant_segments l = 4 * length l.tokens.now + 3

abbrev pub decreases-constant_segment : goal.decreases-constant_segment
decreases-constant_segment l = 4 * length l.tokens.now + 2

abbrev pub decreases-constant_pairs : goal.decreases-constant_pairs
decreases-constant_pairs l = 4 * length l.tokens.now + 3

abbrev pub decreases-constant_pair : goal.decreases-constant_pair
decreases-constant_pair l = 4 * length l.tokens.now + 2

abbrev pub invariant-constant_list-loop-pending : goal.invariant-constant_list-loop-pending
invariant-constant_list-loop-pending l = record {
  so_far : ReadsConstantElements l.depth l.fn.tokens l.pending l.rest;
  shorter : length l.rest < length l.fn.tokens;
}

abbrev pub decreases-constant_list-loop-pending : goal.decreases-constant_list-loop-pending
decreases-constant_list-loop-pending l = l.pending

abbrev pub invariant-constant_elements-loop-element : goal.invariant-constant_elements-loop-element
invariant-constant_elements-loop-element l = record {
  so_far : ElementsBefore l.depth l.fn.tokens l.from l.pending;
  within : length l.from ≤ length l.fn.first.rest.now;
  shorter : length l.from + l.pending < length l.fn.tokens;
}

abbrev pub decreases-constant_elements-loop-element : goal.decreases-constant_elements-loop-element
decreases-constant_elements-loop-element l = length l.from

abbrev pub invariant-constants-loop-item : goal.invariant-constants-loop-item
invariant-constants-loop-item l = record {
  so_far : Before l.close (constant l.depth) l.fn.tokens l.from l.constants;
  shorter : length l.from ≤ length l.fn.tokens;
}

abbrev pub decreases-constants-loop-item : goal.decreases-constants-loop-item
decreases-constants-loop-item l = length l.from

abbrev pub invariant-constant_segments-loop-rest : goal.invariant-constant_segments-loop-rest
invariant-constant_segments-loop-rest l = record {
  so_far : SegmentsBefore l.depth l.fn.tokens l.from;
  shorter : length l.from ≤ length l.fn.tokens;
}

abbrev pub decreases-constant_segments-loop-rest : goal.decreases-constant_segments-loop-rest
decreases-constant_segments-loop-rest l = length l.from

abbrev pub invariant-constant_pairs-loop-rest : goal.invariant-constant_pairs-loop-rest
invariant-constant_pairs-loop-rest l = record {
  so_far : PairsBefore l.depth l.fn.tokens l.from;
  shorter : length l.from ≤ length l.fn.tokens;
}

abbrev pub decreases-constant_pairs-loop-rest : goal.decreases-constant_pairs-loop-rest
decreases-constant_pairs-loop-rest l = length l.from
