use Rattle.std.proofs.Common.{arith, refl}
use Rattle.type_lattice_trees.proofs.Views.{of_above, part_fits}
use Rattle.type_lattice_trees.proofs.CutTrees.{cut_parts_fit, tags_of, tags_filled_there, every_body, element_fits, rest_fits}
use Rattle.type_lattice_trees.proofs.cuts.+cuts.Goals as goal

pub cut_high-cut_parts-requires : goal.cut_high-cut_parts-requires
cut_high-cut_parts-requires t c = (omega (arith, of_above c.args.t.now c.in-Of.parts c.in-Of.is c.args.from c.requires.fits), part_fits _ _ c.in-Of.is _ _ c.requires.fits refl)

pub cut_body-cut_tags-requires : goal.cut_body-cut_tags-requires
cut_body-cut_tags-requires t c = (omega (arith, c.decreases), tags_of _ _ _ _ c.in-Tags.is c.as_slice-then-to-gt0.ensures c.requires)

pub cut_body-returns-in_ok-every_value-in-Tags-clause-value : goal.cut_body-returns-in_ok-every_value-in-Tags-clause-value
cut_body-returns-in_ok-every_value-in-Tags-clause-value t c =
    let filled = tags_filled_there _ _ _ _ c.in-Tags.is c.as_slice-in-Tags.ensures c.requires in
    every_body _ _ _ _ _ _ _ _ c.in-Tags.is c.as_slice-in-Tags.ensures c.requires c.if-to-gt0.false filled c.index-as_slice-0.is c.as_slice-rest.ensures c.in_ok-every_value-in-Tags.ensures

pub cut_parts-returns-clause-fits : goal.cut_parts-returns-clause-fits
cut_parts-returns-clause-fits t c = cut_parts_fit c.args.from c.args.to c.args.parts.now _ c.requires c.in_ok-plain.ensures c.in_ok-cell.ensures.value c.in_ok-tuples.ensures.value c.in_ok-cell.ensures.each c.in_ok-tuples.ensures.each

pub cut_row-cut_element-requires : goal.cut_row-cut_element-requires
cut_row-cut_element-requires t c = (omega (arith, c.decreases), element_fits _ _ _ c.requires _ _ c.loop-element-test.true c.element-item.is)

pub cut_tags-cut_row-requires : goal.cut_tags-cut_row-requires
cut_tags-cut_row-requires t c = (omega (arith, c.decreases), rest_fits _ _ c.requires _ _ _ c.loop-tag-test.true c.tag-item.is c.as_slice.ensures)
