use Rattle.std.proofs.Common.{◌∙◌, sym, subst, ap, arith, refl}
use Rattle.type_lattice_trees.specs.View.{TuplesFit}
use Rattle.type_lattice_trees.specs.declared.node.TuplesOf.TheVariants.{Sizes}
use Rattle.type_lattice_trees.proofs.Views.{of_above, below_fits}
use Rattle.type_lattice_trees.proofs.Inclusions.{rest_fits, after_fits, size_fits, found_fits}
use Rattle.type_lattice_trees.proofs.MeetViews.{row_below, meet_of_parts_fits, sizes_fit}
use Rattle.type_lattice_trees.proofs.meets.+meets.Goals as goal

pub meet_apart-meet_parts-requires : goal.meet_apart-meet_parts-requires
meet_apart-meet_parts-requires t c = (
  omega (arith, c.decreases, of_above c.args.a.now c.in-Of.parts c.in-Of.is c.args.level c.requires.a),
  (below_fits c.args.a.now c.in-Of.parts c.in-Of.is c.args.level c.requires.a, below_fits c.args.b.now c.in-Of-b.others c.in-Of-b.is c.args.level c.requires.b),
)

pub meet_apart-returns-in_ok-meet_parts-in-Of-b-clause-fits :
    goal.meet_apart-returns-in_ok-meet_parts-in-Of-b-clause-fits
meet_apart-returns-in_ok-meet_parts-in-Of-b-clause-fits t c =
    meet_of_parts_fits c.args.a.now c.args.b.now _ c.in-Of.parts c.in-Of-b.others c.in_ok-meet_parts-in-Of-b.field-0 c.in-Of.is c.in-Of-b.is refl c.args.level c.requires.a c.requires.b c.in_ok-meet_parts-in-Of-b.ensures.fits
    c.in_ok-meet_parts-in-Of-b.ensures.value

pub meet_sizes-meet_body-requires : goal.meet_sizes-meet_body-requires
meet_sizes-meet_body-requires t c = (
  omega (arith, c.decreases),
  (
    c.size-item.result.size,
    (
      size_fits c.args.level c.args.a.now c.requires.a c.loop-size.size-index c.size-item.result c.loop-size-test.true c.size-item.is,
      found_fits c.args.level c.args.b.now c.size-item.result.size c.in-Some.other.now c.requires.b (c.in-Some.ensures.value c.args.level) (c.in-Some.ensures.each c.args.level c.requires.b.each),
    ),
  ),
)

pub meet_tags-meet_rest-requires : goal.meet_tags-meet_rest-requires
meet_tags-meet_rest-requires t c =
    let d = c.args.level in
    let n = c.requires.0 in
    let b = c.requires.1.1 in (
      omega (arith, c.decreases),
      (
        n,
        (
          rest_fits d n c.args.a.now c.requires.1.0 c.loop-tag.tag-index c.tag-item.result c.loop-tag-test.true c.tag-item.is,
          after_fits d n c.args.b.now c.tag-item.result.atom c.in-Some.other.now b (c.in-Some.ensures.value d b.each) (c.in-Some.ensures.each d b.each),
        ),
      ),
    )

pub meet_tuples-returns-in_ok-new-in-Sizes-b-clause-fits :
    goal.meet_tuples-returns-in_ok-new-in-Sizes-b-clause-fits
meet_tuples-returns-in_ok-new-in-Sizes-b-clause-fits t c =
    let d = c.args.level in
    subst (λ ss. TuplesFit d (Sizes ss)) (sym c.in_ok-new-in-Sizes-b.ensures) (sizes_fit d c.args.a.now c.args.b.now c.as_slice.result.now c.as_slice-in-Sizes-b.result.now c.in_ok-met-in-Sizes-b.met
    (c.in-Sizes.is ∙ ap Sizes (sym c.as_slice.ensures)) (c.in-Sizes-b.is ∙ ap Sizes (sym c.as_slice-in-Sizes-b.ensures)) c.requires.a c.requires.b c.in_ok-met-in-Sizes-b.ensures.value c.in_ok-met-in-Sizes-b.ensures.each)

pub meet_rest-returns-then-leq_row-clause-value : goal.meet_rest-returns-then-leq_row-clause-value
meet_rest-returns-then-leq_row-clause-value t c =
    row_below c.args.level c.requires.0 c.args.a.now c.args.b.now c.as_slice-row.result.now c.in_ok-share.field-0 c.requires.1.0 c.requires.1.1 c.as_slice-row.ensures (c.leq_row.ensures.0 c.if-leq_row.true) c.in_ok-share.ensures
