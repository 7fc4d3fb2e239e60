use Rattle.std.proofs.Common.{◌≡◌, true, None, arith, refl, sym, subst}
use Rattle.type_kinds.proofs.Truths.{refuted, granted}
use Rattle.type_kinds_sets.specs.Names.{name_cmp}
use Rattle.type_lattice_model.specs.Tables.{find}
use Rattle.type_lattice_trees.specs.declared.node.BodyOf.TheVariants as of_body
use Rattle.type_lattice_trees.specs.View.{tags_view, RowFits}
use Rattle.type_lattice_trees.proofs.Views.{of_above, part_fits}
use Rattle.type_lattice_trees.proofs.Inclusions.{TagBelow, SizeBelow, failed, one_item_more, below_any, any_not_below, parts_tell, plain_below, cell_below, tuples_tell, some_cell_not_below, free_not_below, elements_tell, position_below}
use Rattle.type_lattice_trees.proofs.Inclusions.{product_not_below, each_tag_below, tag_below, rest_fits, after_fits, tag_absent, tag_tells, each_size_below, size_below, size_fits, found_fits, size_absent, size_tells, all_not_below}
use Rattle.type_lattice_trees.proofs.BottomRows.{bottom_bodies}
use Rattle.type_lattice_trees.proofs.JoinLaws.{tags_of_bodies}
use Rattle.type_lattice_trees.proofs.PositionLaws.{Behind, atom_of}
use Rattle.type_lattice_trees.proofs.TagWalks.{left_more, tag_missing, tag_there, same_tag, rest_there}
use Rattle.type_lattice_trees.proofs.inclusion.+inclusion.Goals as goal

-- ---- types

pub leq-overflow_sub-level : goal.leq-overflow_sub-level
leq-overflow_sub-level t c = of_above _ _ c.in-Of-a.is _ c.requires.a

pub leq-leq_parts-requires : goal.leq-leq_parts-requires
leq-leq_parts-requires t c = (
  omega (arith, c.decreases, of_above c.args.a.now c.in-Of-a.parts c.in-Of-a.is c.args.level c.requires.a),
  (part_fits _ _ c.in-Of-a.is _ _ c.requires.a refl, part_fits _ _ c.in-Of.is _ _ c.requires.b refl),
)

pub leq-returns-in-Any : goal.leq-returns-in-Any
leq-returns-in-Any t c = granted (below_any _ _ _ c.in-Any.is)

pub leq-returns-in-Any-a : goal.leq-returns-in-Any-a
leq-returns-in-Any-a t c = refuted (any_not_below _ _ _ _ c.in-Any-a.is c.in-Of.is c.requires.b)

pub leq-returns-in-Of-a : goal.leq-returns-in-Of-a
leq-returns-in-Of-a t c = parts_tell _ _ _ _ _ _ c.in-Of-a.is c.in-Of.is c.requires.a c.leq_parts.ensures

-- ---- parts

pub leq_parts-returns-then-not-leq : goal.leq_parts-returns-then-not-leq
leq_parts-returns-then-not-leq t c = refuted (λ h. failed _ c.leq.ensures c.if-not-leq.true (plain_below _ _ _ h))

pub leq_parts-returns-then-not-leq_cell : goal.leq_parts-returns-then-not-leq_cell
leq_parts-returns-then-not-leq_cell t c = refuted (λ h. failed _ c.leq_cell.ensures c.if-not-leq_cell.true (cell_below _ _ _ h))

pub leq_parts-returns : goal.leq_parts-returns
leq_parts-returns t c = tuples_tell _ _ _ _ (c.leq.ensures.0 c.if-not-leq.false) (c.leq_cell.ensures.0 c.if-not-leq_cell.false) c.leq_tuples.ensures

-- ---- lists that aren't empty

pub leq_cell-returns-in-None-b : goal.leq_cell-returns-in-None-b
leq_cell-returns-in-None-b t c = refuted (some_cell_not_below _ _ _ c.requires.a _ c.in-Some.is c.in-None-b.is)

pub leq_cell-returns-then-not-one : goal.leq_cell-returns-then-not-one
leq_cell-returns-then-not-one t c = refuted (free_not_below _ _ _ c.requires.a _ _ c.in-Some.is c.in-Some-b.is c.if-two.true c.if-not-one.true)

pub leq_cell-returns-else-two : goal.leq_cell-returns-else-two
leq_cell-returns-else-two t c =
    let ends : c.in-Some-b.two.is_proper ≡ true → c.in-Some.one.is_proper ≡ true = grind arith in
    elements_tell _ _ _ c.requires.a _ _ _ c.in-Some.is c.in-Some-b.is ends (rw (← c.get.ensures, ← c.get-in-Some-b.ensures) c.leq.ensures)

-- ---- products

pub leq_row-returns-then-not-leq : goal.leq_row-returns-then-not-leq
leq_row-returns-then-not-leq t c =
    refuted (λ h. failed _ c.leq.ensures c.if-not-leq.true (rw (c.get.ensures, c.get-in-loop-i.ensures) (position_below _ _ _ _ c.requires.1.0 h _ _ _ c.loop-i-test.true c.index-a-i.is c.index-b-i.is)))

-- ---- the tuples of one size

pub leq_body-returns-then-level-eq0 : goal.leq_body-returns-then-level-eq0
leq_body-returns-then-level-eq0 t c = granted (bottom_bodies c.args.level c.requires.0 c.args.a.now c.args.b.now c.if-level-eq0.true c.requires.1.0 c.requires.1.1)

pub leq_body-returns-in-Product-b : goal.leq_body-returns-in-Product-b
leq_body-returns-in-Product-b t c = rw (c.in-Product.is, c.in-Product-b.is, ← c.as_slice.ensures, ← c.as_slice-in-Product-b.ensures) c.leq_row.ensures

pub leq_body-returns-in-Tags-b : goal.leq_body-returns-in-Tags-b
leq_body-returns-in-Tags-b t c = refuted (product_not_below _ _ _ _ _ _ c.in-Product.is c.in-Tags-b.is c.requires.1.0 c.requires.1.1)

pub leq_body-returns-in-Product-b-2 : goal.leq_body-returns-in-Product-b-2
leq_body-returns-in-Product-b-2 t c = rw (c.in-Tags.is, ← c.as_slice-in-Product-b-2.ensures) c.leq_tags.ensures

pub leq_body-leq_both_tags-requires : goal.leq_body-leq_both_tags-requires
leq_body-leq_both_tags-requires t c =
    (omega (arith, c.decreases), tags_of_bodies _ _ _ _ _ _ _ _ c.requires.1.0 c.requires.1.1 c.in-Tags.is c.in-Tags-b-2.is c.as_slice-in-Tags-b-2.ensures c.as_slice-in-Tags-b-2-2.ensures)

pub leq_body-returns-in-Tags-b-2 : goal.leq_body-returns-in-Tags-b-2
leq_body-returns-in-Tags-b-2 t c = rw (c.in-Tags.is, c.in-Tags-b-2.is, ← c.as_slice-in-Tags-b-2.ensures, ← c.as_slice-in-Tags-b-2-2.ensures) c.leq_both_tags.ensures

-- ---- tags

pub leq_tags-returns-in-None : goal.leq_tags-returns-in-None
leq_tags-returns-in-None t c =
    let fit = rest_fits _ _ _ c.requires.1.0 _ _ c.loop-tag-test.true c.tag-item.is in
    refuted (λ h. tag_absent c.args.level c.requires.0 c.args.b.now c.tag-item.result fit (c.in-None.ensures.value c.args.level c.requires.1.1.each) (tag_below _ _ _ _ c.requires.1.0 h _ _ c.loop-tag-test.true c.tag-item.is))

pub leq_tags-leq_row-requires : goal.leq_tags-leq_row-requires
leq_tags-leq_row-requires t c =
    let fit = rest_fits _ _ _ c.requires.1.0 _ _ c.loop-tag-test.true c.tag-item.is in
    let after = after_fits _ _ _ _ _ c.requires.1.1 (c.in-Some.ensures.value c.args.level c.requires.1.1.each) (c.in-Some.ensures.each c.args.level c.requires.1.1.each) in
    (omega (arith, c.decreases), (c.requires.0, (subst (RowFits c.args.level c.requires.0) (sym c.as_slice.ensures) fit, after)))

pub leq_tags-returns-then-not-leq_row : goal.leq_tags-returns-then-not-leq_row
leq_tags-returns-then-not-leq_row t c =
    let tells = tag_tells c.args.level c.args.b.now c.tag-item.result _ _ _ c.as_slice.ensures (c.in-Some.ensures.value c.args.level c.requires.1.1.each) c.leq_row.ensures in
    refuted (λ h. failed _ tells c.if-not-leq_row.true (tag_below _ _ _ _ c.requires.1.0 h _ _ c.loop-tag-test.true c.tag-item.is))

pub leq_tags-returns : goal.leq_tags-returns
leq_tags-returns t c = granted (each_tag_below c.args.level c.args.b.now _ _ c.loop-tag-test.false c.loop-tag.invariant)

-- ---- the tags of two bodies

pub leq_both_tags-returns-in_default : goal.leq_both_tags-returns-in_default
leq_both_tags-returns-in_default t c =
    let fit = rest_fits _ _ _ c.requires.1.0 _ _ c.loop-tag-test.true c.tag-item.is in
    let behind = subst (λ a. Behind name_cmp atom_of a c.args.b.now c.loop-tag.from) (sym c.get.ensures) (c.loop-tag.invariant.1 c.loop-tag.tag-index c.tag-item.result (omega arith) c.loop-tag-test.true c.tag-item.is) in
    let missing = tag_missing c.args.level _ _ _ behind (c.in_default.ensures.missing c.args.level) in
    let absent = subst (λ a. None ≡ find name_cmp (tags_view c.args.level c.args.b.now) a) c.get.ensures missing in
    refuted (λ h. tag_absent c.args.level c.requires.0 (of_body.Tags c.args.b.now) c.tag-item.result fit absent (tag_below c.args.level (of_body.Tags c.args.b.now) _ _ c.requires.1.0 h _ _ c.loop-tag-test.true c.tag-item.is))

pub leq_both_tags-leq_row-requires : goal.leq_both_tags-leq_row-requires
leq_both_tags-leq_row-requires t c =
    let fit = rest_fits _ _ _ c.requires.1.0 _ _ c.loop-tag-test.true c.tag-item.is in
    let there = rest_there _ _ _ _ _ _ c.requires.1.1 c.in-Some.ensures.within c.index-b-at.is c.as_slice-in-loop-tag.ensures in
    (omega (arith, c.decreases), (c.requires.0, (subst (RowFits c.args.level c.requires.0) (sym c.as_slice.ensures) fit, there)))

pub leq_both_tags-returns-then-not-leq_row : goal.leq_both_tags-returns-then-not-leq_row
leq_both_tags-returns-then-not-leq_row t c =
    let same = same_tag _ _ _ _ _ c.in-Some.ensures.within c.index-b-at.is c.in-Some.ensures.found c.get.ensures in
    let there = tag_there c.args.level _ _ _ _ _ _ c.requires.1.1 c.in-Some.ensures.within c.index-b-at.is c.as_slice-in-loop-tag.ensures same in
    let tells = tag_tells c.args.level (of_body.Tags c.args.b.now) c.tag-item.result _ _ _ c.as_slice.ensures there c.leq_row.ensures in
    refuted (λ h. failed _ tells c.if-not-leq_row.true (tag_below c.args.level (of_body.Tags c.args.b.now) _ _ c.requires.1.0 h _ _ c.loop-tag-test.true c.tag-item.is))

pub leq_both_tags-loop-tag-preserved : goal.leq_both_tags-loop-tag-preserved
leq_both_tags-loop-tag-preserved t c =
    let same = same_tag _ _ _ _ _ c.in-Some.ensures.within c.index-b-at.is c.in-Some.ensures.found c.get.ensures in
    let there = tag_there c.args.level _ _ _ _ _ _ c.requires.1.1 c.in-Some.ensures.within c.index-b-at.is c.as_slice-in-loop-tag.ensures same in
    let tells = tag_tells c.args.level (of_body.Tags c.args.b.now) c.tag-item.result _ _ _ c.as_slice.ensures there c.leq_row.ensures in (
      one_item_more (TagBelow c.args.level (of_body.Tags c.args.b.now)) _ _ _ c.loop-tag-test.true c.tag-item.is c.loop-tag.invariant.0 (tells.0 c.if-not-leq_row.false),
      left_more _ _ _ _ _ _ _ _ c.requires.1.0 c.requires.1.1 c.loop-tag-test.true c.tag-item.is c.in-Some.ensures.within c.index-b-at.is same,
    )

pub leq_both_tags-returns : goal.leq_both_tags-returns
leq_both_tags-returns t c = granted (each_tag_below c.args.level (of_body.Tags c.args.b.now) _ _ c.loop-tag-test.false c.loop-tag.invariant.0)

-- ---- sizes

pub leq_sizes-returns-in-None : goal.leq_sizes-returns-in-None
leq_sizes-returns-in-None t c =
    let fit = size_fits _ _ c.requires.a _ _ c.loop-size-test.true c.size-item.is in
    refuted (λ h. size_absent c.args.level c.args.b.now c.size-item.result fit (c.in-None.ensures.value c.args.level) (size_below _ _ _ c.requires.a h _ _ c.loop-size-test.true c.size-item.is))

pub leq_sizes-leq_body-requires : goal.leq_sizes-leq_body-requires
leq_sizes-leq_body-requires t c =
    let fit = size_fits _ _ c.requires.a _ _ c.loop-size-test.true c.size-item.is in
    (omega (arith, c.decreases), (c.size-item.result.size, (fit, found_fits _ _ _ _ c.requires.b (c.in-Some.ensures.value c.args.level) (c.in-Some.ensures.each c.args.level c.requires.b.each))))

pub leq_sizes-returns-then-not-leq_body : goal.leq_sizes-returns-then-not-leq_body
leq_sizes-returns-then-not-leq_body t c =
    let tells = size_tells c.args.level c.args.b.now c.size-item.result _ _ (c.in-Some.ensures.value c.args.level) c.leq_body.ensures in
    refuted (λ h. failed _ tells c.if-not-leq_body.true (size_below _ _ _ c.requires.a h _ _ c.loop-size-test.true c.size-item.is))

pub leq_sizes-loop-size-preserved : goal.leq_sizes-loop-size-preserved
leq_sizes-loop-size-preserved t c =
    let tells = size_tells c.args.level c.args.b.now c.size-item.result _ _ (c.in-Some.ensures.value c.args.level) c.leq_body.ensures in
    one_item_more (SizeBelow c.args.level c.args.b.now) _ _ _ c.loop-size-test.true c.size-item.is c.loop-size.invariant (tells.0 c.if-not-leq_body.false)

pub leq_sizes-returns : goal.leq_sizes-returns
leq_sizes-returns t c = granted (each_size_below c.args.level c.args.b.now _ _ c.loop-size-test.false c.loop-size.invariant)

-- ---- tuples

pub leq_tuples-returns-in-All-a : goal.leq_tuples-returns-in-All-a
leq_tuples-returns-in-All-a t c = refuted (all_not_below _ _ _ _ c.in-All-a.is c.in-Sizes.is c.requires.b)

pub leq_tuples-returns-in-Sizes-a : goal.leq_tuples-returns-in-Sizes-a
leq_tuples-returns-in-Sizes-a t c = rw (c.in-Sizes-a.is, c.in-Sizes.is, ← c.as_slice.ensures, ← c.as_slice-in-Sizes-a.ensures) c.leq_sizes.ensures
