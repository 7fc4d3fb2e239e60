use Rattle.std.proofs.Common.{length, refl, sym, ap, ◌∙◌, arith}
use Rattle.core_parse_grammar.proofs.ConstantExits.{within_limit, constant_end, constant_dull, constant_deep, constant_text, constant_other, constant_bad, other_single, curly_bad, curly_ok, binary_bad, binary_ok}
use Rattle.core_parse_grammar.proofs.ConstantExits.{map_bad, map_ok, other_stuck, constants_end, constants_none, constants_some, constants_bad, constants_ended, constants_close, constants_other, constants_comma}
use Rattle.core_parse_grammar.proofs.ConstantListExits.{square_end, square_nil, square_some, element_bad, element_end, element_shut, element_comma, bar_bad, bar_whole, bar_elements, element_stuck}
use Rattle.core_parse_grammar.proofs.ConstantListExits.{unclosed, closes_one, all_closed, as_whole, tail_end, tail_text, tail_square_end, tail_nil, tail_opens, tail_other, tail_bad}
use Rattle.core_parse_grammar.proofs.ConstantPartExits.{segment_0_bad, segment_1_bad, segment_2_bad, segment_3_bad, segment_4_bad, segment_ok, pair_0_bad, pair_1_bad, pair_2_bad, pair_ok, segments_end, segments_none, segments_some}
use Rattle.core_parse_grammar.proofs.ConstantPartExits.{segments_bad, segments_ended, segments_close, segments_other, segments_comma, pairs_end, pairs_none, pairs_some, pairs_bad, pairs_ended, pairs_close, pairs_other, pairs_comma}
use Rattle.core_parse_grammar.proofs.constants.+constants.Goals as goal

pub constant-returns-in-Err-clause-err : goal.constant-returns-in-Err-clause-err
constant-returns-in-Err-clause-err t c = constant_end _ _ _ c.in-Err.ensures.err

pub constant-returns-then-begins_constant-clause-err : goal.constant-returns-then-begins_constant-clause-err
constant-returns-then-begins_constant-clause-err t c = constant_deep _ _ _ _ _ _ c.in-Ok.ensures.ok _ c.is_too_deep.ensures c.if-is_too_deep.true c.requires _ c.begins_constant.ensures c.if-begins_constant.true

pub constant-returns-then-is_too_deep-clause-err : goal.constant-returns-then-is_too_deep-clause-err
constant-returns-then-is_too_deep-clause-err t c = constant_dull _ _ _ _ _ _ c.in-Ok.ensures.ok _ c.begins_constant.ensures c.if-begins_constant.false

pub constant-returns-in-Text-clause-ok : goal.constant-returns-in-Text-clause-ok
constant-returns-in-Text-clause-ok t c = constant_text _ _ _ _ _ _ c.in-Ok.ensures.ok _ c.is_too_deep.ensures c.if-is_too_deep.false c.in-Text.is

pub constant-returns-in-Text-clause-shallow : goal.constant-returns-in-Text-clause-shallow
constant-returns-in-Text-clause-shallow t c = within_limit _ _ (sym c.is_too_deep.ensures ∙ c.if-is_too_deep.false)

pub constant-returns-in-Ok-constant_list-clause-shallow : goal.constant-returns-in-Ok-constant_list-clause-shallow
constant-returns-in-Ok-constant_list-clause-shallow t c = within_limit _ _ (sym c.is_too_deep.ensures ∙ c.if-is_too_deep.false)

pub constant-returns-in-Ok-other_constant : goal.constant-returns-in-Ok-other_constant
constant-returns-in-Ok-other_constant t c = record {
  ok = constant_other _ _ _ _ _ _ c.in-Ok.ensures.ok c.in_default.not-Text c.in_default.not-OpenSquare _ _ c.in-Ok-other_constant.ensures.ok;
  shorter = c.in-Ok-other_constant.ensures.shorter;
  shallow = within_limit _ _ (sym c.is_too_deep.ensures ∙ c.if-is_too_deep.false);
  err = tt;
}

pub constant-returns-in-Err-other_constant : goal.constant-returns-in-Err-other_constant
constant-returns-in-Err-other_constant t c = record { ok = tt; shorter = tt; shallow = tt; err = constant_bad _ _ _ _ _ _ c.in-Ok.ensures.ok c.in_default.not-Text c.in_default.not-OpenSquare _ c.in-Err-other_constant.ensures.err }

pub constant_elements-loop-element-init : goal.constant_elements-loop-element-init
constant_elements-loop-element-init t c = record { so_far = square_some _ _ _ _ _ _ c.requires.starts c.requires.sort c.requires.shallow _ _ _ _ c.requires.goes_on c.requires.some; within = omega arith; shorter = omega arith }

pub constant_elements-returns-in-Err-clause-err : goal.constant_elements-returns-in-Err-clause-err
constant_elements-returns-in-Err-clause-err t c = element_bad _ _ _ _ c.loop-element.invariant.so_far _ c.in-Err.ensures.err

pub constant_elements-returns-in-Err-next-clause-err : goal.constant_elements-returns-in-Err-next-clause-err
constant_elements-returns-in-Err-next-clause-err t c = element_end _ _ _ _ c.loop-element.invariant.so_far _ _ c.in-Ok.ensures.ok _ c.in-Err-next.ensures.err

pub constant_elements-returns-then-fits-clause-ok : goal.constant_elements-returns-then-fits-clause-ok
constant_elements-returns-then-fits-clause-ok t c = element_shut _ _ _ _ c.loop-element.invariant.so_far _ _ c.in-Ok.ensures.ok _ _ _ _ c.in-Ok-next.ensures.ok _ c.fits.ensures c.if-fits.true

pub constant_elements-loop-element-preserved-then-fits-2 : goal.constant_elements-loop-element-preserved-then-fits-2
constant_elements-loop-element-preserved-then-fits-2 t c = record {
  so_far = element_comma _ _ _ _ c.loop-element.invariant.so_far _ _ c.in-Ok.ensures.ok _ _ _ _ c.in-Ok-next.ensures.ok _ c.fits-in-loop-element.ensures c.if-fits-2.true;
  within = omega (arith, c.loop-element.invariant.within, c.loop-element.invariant.shorter, c.in-Ok.ensures.shorter, c.in-Ok-next.ensures.shorter);
  shorter =
      omega (arith, c.loop-element.invariant.within, c.loop-element.invariant.shorter, c.in-Ok.ensures.shorter, c.in-Ok-next.ensures.shorter);
}

pub constant_elements-returns-then-not-fits-clause-err : goal.constant_elements-returns-then-not-fits-clause-err
constant_elements-returns-then-not-fits-clause-err t c = element_stuck _ _ _ _ c.loop-element.invariant.so_far _ _ c.in-Ok.ensures.ok _ _ _ _ c.in-Ok-next.ensures.ok _ _ _ c.fits.ensures c.if-fits.false c.fits-in-loop-element.ensures
    c.if-fits-2.false c.fits-in-loop-element-2.ensures c.if-not-fits.true

pub constant_elements-returns-in-Err-constant_tail-clause-err : goal.constant_elements-returns-in-Err-constant_tail-clause-err
constant_elements-returns-in-Err-constant_tail-clause-err t c =
    bar_bad _ _ _ _ c.loop-element.invariant.so_far _ _ c.in-Ok.ensures.ok _ _ _ _ c.in-Ok-next.ensures.ok _ c.fits-in-loop-element-2.ensures c.if-not-fits.false _ c.in-Err-constant_tail.ensures.err

pub constant_elements-returns-in-Whole-clause-ok : goal.constant_elements-returns-in-Whole-clause-ok
constant_elements-returns-in-Whole-clause-ok t c = bar_whole _ _ _ _ c.loop-element.invariant.so_far _ _ c.in-Ok.ensures.ok _ _ _ _ c.in-Ok-next.ensures.ok _ c.fits-in-loop-element-2.ensures c.if-not-fits.false _ _
    c.in-Ok-constant_tail.ensures.ok c.in-Whole.is _ refl

pub constant_elements-loop-element-preserved : goal.constant_elements-loop-element-preserved
constant_elements-loop-element-preserved t c = record {
  so_far = bar_elements _ _ _ _ c.loop-element.invariant.so_far _ _ c.in-Ok.ensures.ok _ _ _ _ c.in-Ok-next.ensures.ok _ c.fits-in-loop-element-2.ensures c.if-not-fits.false _ _
      c.in-Ok-constant_tail.ensures.ok c.in-Elements.is _ refl;
  within = omega (
    arith,
    c.loop-element.invariant.within,
    c.loop-element.invariant.shorter,
    c.in-Ok.ensures.shorter,
    c.in-Ok-next.ensures.shorter,
    c.in-Ok-constant_tail.ensures.shorter,
  );
  shorter = omega (arith, c.loop-element.invariant.within, c.loop-element.invariant.shorter, c.in-Ok.ensures.shorter, c.in-Ok-next.ensures.shorter, c.in-Ok-constant_tail.ensures.shorter);
}

pub constant_list-returns-in-Err-clause-err : goal.constant_list-returns-in-Err-clause-err
constant_list-returns-in-Err-clause-err t c = square_end _ _ _ _ _ _ c.requires.starts c.requires.sort c.requires.shallow _ c.in-Err.ensures.err

pub constant_list-returns-then-fits-clause-ok : goal.constant_list-returns-then-fits-clause-ok
constant_list-returns-then-fits-clause-ok t c = square_nil _ _ _ _ _ _ c.requires.starts c.requires.sort c.requires.shallow _ _ _ _ c.in-Ok.ensures.ok _ c.fits.ensures c.if-fits.true _ c.another.ensures.constant _ c.another.ensures.rest

pub constant_list-loop-pending-init : goal.constant_list-loop-pending-init
constant_list-loop-pending-init t c = record { so_far = c.in-Ok-constant_elements.ensures.ok; shorter = omega (arith, c.in-Ok-constant_elements.ensures.shorter) }

pub constant_list-returns-in-Err-take-clause-err : goal.constant_list-returns-in-Err-take-clause-err
constant_list-returns-in-Err-take-clause-err t c = unclosed _ _ _ _ (omega arith) c.loop-pending.invariant.so_far _ c.in-Err-take.ensures.err

pub constant_list-loop-pending-preserved : goal.constant_list-loop-pending-preserved
constant_list-loop-pending-preserved t c = record {
  so_far = closes_one _ _ _ _ _ (omega arith) c.loop-pending.invariant.so_far _ c.in-Ok-take.ensures.ok;
  shorter = omega (arith, c.loop-pending.invariant.shorter, c.in-Ok-take.ensures.shorter);
}

pub constant_list-returns-clause-ok : goal.constant_list-returns-clause-ok
constant_list-returns-clause-ok t c = all_closed _ _ _ _ (omega arith) c.loop-pending.invariant.so_far _ c.another-2.ensures.constant _ c.another-2.ensures.rest

pub constant_tail-returns-in-Err-clause-err : goal.constant_tail-returns-in-Err-clause-err
constant_tail-returns-in-Err-clause-err t c = tail_end _ (omega arith) _ _ c.in-Err.ensures.err

pub constant_tail-returns-in-Err-next-clause-err : goal.constant_tail-returns-in-Err-next-clause-err
constant_tail-returns-in-Err-next-clause-err t c = tail_square_end _ (omega arith) _ _ _ _ _ c.in-Ok.ensures.ok c.in-OpenSquare.is _ c.in-Err-next.ensures.err

pub constant_tail-returns-then-fits-clause-ok : goal.constant_tail-returns-then-fits-clause-ok
constant_tail-returns-then-fits-clause-ok t c = as_whole _ _ _ _ c.whole-then-fits.ensures.kind
    (tail_nil _ (omega arith) _ _ _ _ _ c.in-Ok.ensures.ok c.in-OpenSquare.is _ _ _ _ c.in-Ok-next.ensures.ok _ c.fits.ensures c.if-fits.true _ c.whole-then-fits.ensures.rest)

pub constant_tail-returns-in-Text-clause-ok : goal.constant_tail-returns-in-Text-clause-ok
constant_tail-returns-in-Text-clause-ok t c = as_whole _ _ _ _ c.whole.ensures.kind (tail_text _ (omega arith) _ _ _ _ _ c.in-Ok.ensures.ok c.in-Text.is _ c.whole.ensures.rest)

pub constant_tail-returns-else-fits-clause-ok : goal.constant_tail-returns-else-fits-clause-ok
constant_tail-returns-else-fits-clause-ok t c = tail_opens _ (omega arith) _ _ _ _ _ c.in-Ok.ensures.ok c.in-OpenSquare.is _ _ _ _ c.in-Ok-next.ensures.ok _ c.fits.ensures c.if-fits.false

pub constant_tail-returns-in-Ok-other_constant : goal.constant_tail-returns-in-Ok-other_constant
constant_tail-returns-in-Ok-other_constant t c = record {
  ok = as_whole _ _ _ _ c.whole-in-Ok-other_constant.ensures.kind
      (tail_other _ (omega arith) _ _ _ _ _ c.in-Ok.ensures.ok c.in_default.not-Text c.in_default.not-OpenSquare _ _ c.in-Ok-other_constant.ensures.ok _ c.whole-in-Ok-other_constant.ensures.rest);
  shorter =
      omega (arith, c.in-Ok-other_constant.ensures.shorter, ap (λ z. length z) c.whole-in-Ok-other_constant.ensures.rest);
  err = tt;
}

pub constant_tail-returns-in-Err-other_constant : goal.constant_tail-returns-in-Err-other_constant
constant_tail-returns-in-Err-other_constant t c = record { ok = tt; shorter = tt; err = tail_bad _ (omega arith) _ _ _ _ _ c.in-Ok.ensures.ok c.in_default.not-Text c.in_default.not-OpenSquare _ c.in-Err-other_constant.ensures.err }

pub constants-returns-in-Err-clause-err : goal.constants-returns-in-Err-clause-err
constants-returns-in-Err-clause-err t c = constants_end _ _ c.requires.closes _ _ c.in-Err.ensures.err

pub constants-returns-then-fits-clause-ok : goal.constants-returns-then-fits-clause-ok
constants-returns-then-fits-clause-ok t c = constants_none _ _ c.requires.closes _ _ _ _ _ c.in-Ok.ensures.ok _ c.fits.ensures c.if-fits.true _ c.new-constants.ensures

pub constants-loop-item-init : goal.constants-loop-item-init
constants-loop-item-init t c = record { so_far = constants_some _ _ c.requires.closes _ _ _ _ _ c.in-Ok.ensures.ok _ c.fits.ensures c.if-fits.false _ c.new-constants.ensures; shorter = omega arith }

pub constants-returns-in-Err-constant-clause-err : goal.constants-returns-in-Err-constant-clause-err
constants-returns-in-Err-constant-clause-err t c = constants_bad _ _ c.requires.closes _ _ _ c.loop-item.invariant.so_far _ c.in-Err-constant.ensures.err

pub constants-returns-in-Err-next-clause-err : goal.constants-returns-in-Err-next-clause-err
constants-returns-in-Err-next-clause-err t c = constants_ended _ _ c.requires.closes _ _ _ c.loop-item.invariant.so_far _ _ c.in-Ok-constant.ensures.ok _ c.in-Err-next.ensures.err

pub constants-returns-then-fits-2-clause-ok : goal.constants-returns-then-fits-2-clause-ok
constants-returns-then-fits-2-clause-ok t c = constants_close _ _ c.requires.closes _ _ _ c.loop-item.invariant.so_far _ _ c.in-Ok-constant.ensures.ok _ c.in-Ok-add.ensures.ok _ _ _ _ c.in-Ok-next.ensures.ok _ c.fits-in-loop-item.ensures
    c.if-fits-2.true

pub constants-returns-then-not-fits-clause-err : goal.constants-returns-then-not-fits-clause-err
constants-returns-then-not-fits-clause-err t c = constants_other _ _ c.requires.closes _ _ _ c.loop-item.invariant.so_far _ _ c.in-Ok-constant.ensures.ok _ c.in-Ok-add.ensures.ok _ _ _ _ c.in-Ok-next.ensures.ok _ c.fits-in-loop-item.ensures
    c.if-fits-2.false _ c.fits-in-loop-item-2.ensures c.if-not-fits.true

pub constants-loop-item-preserved : goal.constants-loop-item-preserved
constants-loop-item-preserved t c = record {
  so_far = constants_comma _ _ c.requires.closes _ _ _ c.loop-item.invariant.so_far _ _ c.in-Ok-constant.ensures.ok _ c.in-Ok-add.ensures.ok _ _ _ _ c.in-Ok-next.ensures.ok _
      c.fits-in-loop-item.ensures c.if-fits-2.false _ c.fits-in-loop-item-2.ensures c.if-not-fits.false;
  shorter = omega (arith, c.loop-item.invariant.shorter, c.in-Ok-constant.ensures.shorter, c.in-Ok-next.ensures.shorter);
}

pub constant_segments-returns-in-Err-clause-err : goal.constant_segments-returns-in-Err-clause-err
constant_segments-returns-in-Err-clause-err t c = segments_end _ _ _ c.in-Err.ensures.err

pub constant_segments-returns-then-fits-clause-ok : goal.constant_segments-returns-then-fits-clause-ok
constant_segments-returns-then-fits-clause-ok t c = segments_none _ _ _ _ _ _ c.in-Ok.ensures.ok _ c.fits.ensures c.if-fits.true

pub constant_segments-loop-rest-init : goal.constant_segments-loop-rest-init
constant_segments-loop-rest-init t c = record { so_far = segments_some _ _ _ _ _ _ c.in-Ok.ensures.ok _ c.fits.ensures c.if-fits.false; shorter = omega arith }

pub constant_segments-returns-in-Err-constant_segment-clause-err : goal.constant_segments-returns-in-Err-constant_segment-clause-err
constant_segments-returns-in-Err-constant_segment-clause-err t c = segments_bad _ _ _ c.loop-rest.invariant.so_far _ c.in-Err-constant_segment.ensures.err

pub constant_segments-returns-in-Err-next-clause-err : goal.constant_segments-returns-in-Err-next-clause-err
constant_segments-returns-in-Err-next-clause-err t c = segments_ended _ _ _ c.loop-rest.invariant.so_far _ c.in-Ok-constant_segment.ensures.ok _ c.in-Err-next.ensures.err

pub constant_segments-returns-then-fits-2-clause-ok : goal.constant_segments-returns-then-fits-2-clause-ok
constant_segments-returns-then-fits-2-clause-ok t c = segments_close _ _ _ c.loop-rest.invariant.so_far _ c.in-Ok-constant_segment.ensures.ok _ _ _ _ c.in-Ok-next.ensures.ok _ c.fits-in-loop-rest.ensures c.if-fits-2.true

pub constant_segments-returns-then-not-fits-clause-err : goal.constant_segments-returns-then-not-fits-clause-err
constant_segments-returns-then-not-fits-clause-err t c = segments_other _ _ _ c.loop-rest.invariant.so_far _ c.in-Ok-constant_segment.ensures.ok _ _ _ _ c.in-Ok-next.ensures.ok _ c.fits-in-loop-rest.ensures c.if-fits-2.false _
    c.fits-in-loop-rest-2.ensures c.if-not-fits.true

pub constant_segments-loop-rest-preserved : goal.constant_segments-loop-rest-preserved
constant_segments-loop-rest-preserved t c = record {
  so_far = segments_comma _ _ _ c.loop-rest.invariant.so_far _ c.in-Ok-constant_segment.ensures.ok _ _ _ _ c.in-Ok-next.ensures.ok _ c.fits-in-loop-rest.ensures c.if-fits-2.false _
      c.fits-in-loop-rest-2.ensures c.if-not-fits.false;
  shorter = omega (arith, c.loop-rest.invariant.shorter, c.in-Ok-constant_segment.ensures.shorter, c.in-Ok-next.ensures.shorter);
}

pub constant_pairs-returns-in-Err-clause-err : goal.constant_pairs-returns-in-Err-clause-err
constant_pairs-returns-in-Err-clause-err t c = pairs_end _ _ _ c.in-Err.ensures.err

pub constant_pairs-returns-then-fits-clause-ok : goal.constant_pairs-returns-then-fits-clause-ok
constant_pairs-returns-then-fits-clause-ok t c = pairs_none _ _ _ _ _ _ c.in-Ok.ensures.ok _ c.fits.ensures c.if-fits.true

pub constant_pairs-loop-rest-init : goal.constant_pairs-loop-rest-init
constant_pairs-loop-rest-init t c = record { so_far = pairs_some _ _ _ _ _ _ c.in-Ok.ensures.ok _ c.fits.ensures c.if-fits.false; shorter = omega arith }

pub constant_pairs-returns-in-Err-constant_pair-clause-err : goal.constant_pairs-returns-in-Err-constant_pair-clause-err
constant_pairs-returns-in-Err-constant_pair-clause-err t c = pairs_bad _ _ _ c.loop-rest.invariant.so_far _ c.in-Err-constant_pair.ensures.err

pub constant_pairs-returns-in-Err-next-clause-err : goal.constant_pairs-returns-in-Err-next-clause-err
constant_pairs-returns-in-Err-next-clause-err t c = pairs_ended _ _ _ c.loop-rest.invariant.so_far _ c.in-Ok-constant_pair.ensures.ok _ c.in-Err-next.ensures.err

pub constant_pairs-returns-then-fits-2-clause-ok : goal.constant_pairs-returns-then-fits-2-clause-ok
constant_pairs-returns-then-fits-2-clause-ok t c = pairs_close _ _ _ c.loop-rest.invariant.so_far _ c.in-Ok-constant_pair.ensures.ok _ _ _ _ c.in-Ok-next.ensures.ok _ c.fits-in-loop-rest.ensures c.if-fits-2.true

pub constant_pairs-returns-then-not-fits-clause-err : goal.constant_pairs-returns-then-not-fits-clause-err
constant_pairs-returns-then-not-fits-clause-err t c = pairs_other _ _ _ c.loop-rest.invariant.so_far _ c.in-Ok-constant_pair.ensures.ok _ _ _ _ c.in-Ok-next.ensures.ok _ c.fits-in-loop-rest.ensures c.if-fits-2.false _
    c.fits-in-loop-rest-2.ensures c.if-not-fits.true

pub constant_pairs-loop-rest-preserved : goal.constant_pairs-loop-rest-preserved
constant_pairs-loop-rest-preserved t c = record {
  so_far = pairs_comma _ _ _ c.loop-rest.invariant.so_far _ c.in-Ok-constant_pair.ensures.ok _ _ _ _ c.in-Ok-next.ensures.ok _ c.fits-in-loop-rest.ensures c.if-fits-2.false _
      c.fits-in-loop-rest-2.ensures c.if-not-fits.false;
  shorter = omega (arith, c.loop-rest.invariant.shorter, c.in-Ok-constant_pair.ensures.shorter, c.in-Ok-next.ensures.shorter);
}

pub constant_segment-returns-in-Err-clause-err : goal.constant_segment-returns-in-Err-clause-err
constant_segment-returns-in-Err-clause-err t c = segment_0_bad _ _ _ c.in-Err.ensures.err

pub constant_segment-returns-in-Err-constant-clause-err : goal.constant_segment-returns-in-Err-constant-clause-err
constant_segment-returns-in-Err-constant-clause-err t c = segment_1_bad _ _ _ c.in-Ok.ensures.ok _ c.in-Err-constant.ensures.err

pub constant_segment-returns-in-Err-take-clause-err : goal.constant_segment-returns-in-Err-take-clause-err
constant_segment-returns-in-Err-take-clause-err t c = segment_2_bad _ _ _ c.in-Ok.ensures.ok _ _ c.in-Ok-constant.ensures.ok _ c.in-Err-take.ensures.err

pub constant_segment-returns-in-Err-take-2-clause-err : goal.constant_segment-returns-in-Err-take-2-clause-err
constant_segment-returns-in-Err-take-2-clause-err t c = segment_3_bad _ _ _ c.in-Ok.ensures.ok _ _ c.in-Ok-constant.ensures.ok _ c.in-Ok-take.ensures.ok _ c.in-Err-take-2.ensures.err

pub constant_segment-returns-in-Err-constants-clause-err : goal.constant_segment-returns-in-Err-constants-clause-err
constant_segment-returns-in-Err-constants-clause-err t c = segment_4_bad _ _ _ c.in-Ok.ensures.ok _ _ c.in-Ok-constant.ensures.ok _ c.in-Ok-take.ensures.ok _ c.in-Ok-take-2.ensures.ok _ c.in-Err-constants.ensures.err

pub constant_segment-returns-in-Ok-constants-clause-ok : goal.constant_segment-returns-in-Ok-constants-clause-ok
constant_segment-returns-in-Ok-constants-clause-ok t c = segment_ok _ _ _ c.in-Ok.ensures.ok _ _ c.in-Ok-constant.ensures.ok _ c.in-Ok-take.ensures.ok _ c.in-Ok-take-2.ensures.ok _ _ c.in-Ok-constants.ensures.ok

pub constant_pair-returns-in-Err-clause-err : goal.constant_pair-returns-in-Err-clause-err
constant_pair-returns-in-Err-clause-err t c = pair_0_bad _ _ _ c.in-Err.ensures.err

pub constant_pair-returns-in-Err-take-clause-err : goal.constant_pair-returns-in-Err-take-clause-err
constant_pair-returns-in-Err-take-clause-err t c = pair_1_bad _ _ _ _ c.in-Ok.ensures.ok _ c.in-Err-take.ensures.err

pub constant_pair-returns-in-Err-constant-clause-err : goal.constant_pair-returns-in-Err-constant-clause-err
constant_pair-returns-in-Err-constant-clause-err t c = pair_2_bad _ _ _ _ c.in-Ok.ensures.ok _ c.in-Ok-take.ensures.ok _ c.in-Err-constant.ensures.err

pub constant_pair-returns-in-Ok-constant-clause-ok : goal.constant_pair-returns-in-Ok-constant-clause-ok
constant_pair-returns-in-Ok-constant-clause-ok t c = pair_ok _ _ _ _ c.in-Ok.ensures.ok _ c.in-Ok-take.ensures.ok _ _ c.in-Ok-constant.ensures.ok

pub other_constant-returns-in-Some-clause-ok : goal.other_constant-returns-in-Some-clause-ok
other_constant-returns-in-Some-clause-ok t c = other_single _ _ _ _ _ _ c.requires.starts c.requires.shallow _ _ c.single_constant.ensures c.in-Some.is

pub other_constant-returns-in-Ok-clause-ok : goal.other_constant-returns-in-Ok-clause-ok
other_constant-returns-in-Ok-clause-ok t c = curly_ok _ _ _ _ _ _ c.requires.starts c.requires.shallow c.in-OpenCurly.is _ _ _ _ c.in-Ok.ensures.ok c.tuple_constant.ensures c.as_slice.ensures

pub other_constant-returns-in-Err-clause-err : goal.other_constant-returns-in-Err-clause-err
other_constant-returns-in-Err-clause-err t c = curly_bad _ _ _ _ _ _ c.requires.starts c.requires.shallow c.in-OpenCurly.is _ c.in-Err.ensures.err

pub other_constant-returns-in-Ok-constant_segments-clause-ok : goal.other_constant-returns-in-Ok-constant_segments-clause-ok
other_constant-returns-in-Ok-constant_segments-clause-ok t c = binary_ok _ _ _ _ _ _ c.requires.starts c.requires.shallow c.in-OpenBinary.is _ _ c.in-Ok-constant_segments.ensures.ok c.another.ensures.constant _ c.another.ensures.rest

pub other_constant-returns-in-Err-constant_segments-clause-err : goal.other_constant-returns-in-Err-constant_segments-clause-err
other_constant-returns-in-Err-constant_segments-clause-err t c = binary_bad _ _ _ _ _ _ c.requires.starts c.requires.shallow c.in-OpenBinary.is _ c.in-Err-constant_segments.ensures.err

pub other_constant-returns-in-Ok-constant_pairs-clause-ok : goal.other_constant-returns-in-Ok-constant_pairs-clause-ok
other_constant-returns-in-Ok-constant_pairs-clause-ok t c = map_ok _ _ _ _ _ _ c.requires.starts c.requires.shallow c.in-OpenMap.is _ _ c.in-Ok-constant_pairs.ensures.ok c.another-in-Ok-constant_pairs.ensures.constant _
    c.another-in-Ok-constant_pairs.ensures.rest

pub other_constant-returns-in-Err-constant_pairs-clause-err : goal.other_constant-returns-in-Err-constant_pairs-clause-err
other_constant-returns-in-Err-constant_pairs-clause-err t c = map_bad _ _ _ _ _ _ c.requires.starts c.requires.shallow c.in-OpenMap.is _ c.in-Err-constant_pairs.ensures.err

pub other_constant-returns-in_default-sort : goal.other_constant-returns-in_default-sort
other_constant-returns-in_default-sort t c = record {
  ok = tt;
  shorter = tt;
  err = other_stuck _ _ _ _ _ _ c.requires.starts c.requires.shallow _ c.single_constant.ensures c.in_default.is c.requires.no_list c.in_default-sort.not-OpenCurly c.in_default-sort.not-Fun c.in_default-sort.not-OpenBinary
      c.in_default-sort.not-OpenMap;
}
