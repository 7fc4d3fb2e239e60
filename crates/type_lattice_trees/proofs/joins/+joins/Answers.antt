use Rattle.std.proofs.Common.{arith, ◌<◌, refl, sym, ap, ◌∙◌, length}
use Rattle.std.specs.Ordering.{nat_cmp}
use Rattle.std.proofs.lemmas.Result.{IfOk-weaker}
use Rattle.type_kinds.proofs.Lists.{drop_next}
use Rattle.type_kinds_sets.specs.Names.{name_cmp}
use Rattle.type_lattice_model.specs.Operations.{ops, row_join, body_join}
use Rattle.type_lattice_trees.specs.declared.node.Node.{Node}
use Rattle.type_lattice_trees.specs.declared.node.TagOf.{TagOf}
use Rattle.type_lattice_trees.specs.View.{tag_entry, size_entry}
use Rattle.type_lattice_trees.proofs.Views.{of_above, part_fits}
use Rattle.type_lattice_trees.proofs.Inclusions.{rest_fits, size_fits}
use Rattle.type_lattice_trees.proofs.JoinLaws.{joined_fits, tags_so_far, tags_joined, sizes_so_far, size_there, tags_of_body, tags_of_bodies, product_of_body, elements_fit, row_is, rows_below, rows_above, parts_fit, made_join, entry_found}
use Rattle.type_lattice_trees.proofs.joins.+joins.Goals as goal

pub elements_of-elements_of_tags-requires : goal.elements_of-elements_of_tags-requires
elements_of-elements_of_tags-requires t c = (omega (arith, c.decreases), tags_of_body _ _ _ _ _ c.requires.1 c.in-Tags.is c.as_slice.ensures)

pub join_apart-join_parts-requires : goal.join_apart-join_parts-requires
join_apart-join_parts-requires t c = (
  omega (arith, c.decreases, of_above c.args.a.now c.in-Of.parts c.in-Of.is c.args.level c.requires.a),
  (part_fits _ _ c.in-Of.is _ _ c.requires.a refl, part_fits _ _ c.in-Of-b.is _ _ c.requires.b refl),
)

pub join_apart-returns-in_ok-join_parts-in-Of-b-clause-value :
    goal.join_apart-returns-in_ok-join_parts-in-Of-b-clause-value
join_apart-returns-in_ok-join_parts-in-Of-b-clause-value t c =
    made_join c.args.level _ _ _ _ _ _ (of_above _ _ c.in-Of.is _ c.requires.a) c.in-Of.is c.in-Of-b.is c.in_ok-join_parts-in-Of-b.ensures.fits c.in_ok-join_parts-in-Of-b.ensures.value c.made.ensures.value

pub join_body-join_tags-requires : goal.join_body-join_tags-requires
join_body-join_tags-requires t c = (omega (arith, c.decreases), tags_of_bodies _ _ _ _ _ _ _ _ c.requires.1.0 c.requires.1.1 c.in-Tags.is c.in-Tags-b.is c.as_slice.ensures c.as_slice-in-Tags-b.ensures)

pub join_body-cap_tags-requires : goal.join_body-cap_tags-requires
join_body-cap_tags-requires t c =
    let k = tags_of_bodies _ _ _ _ _ _ _ _ c.requires.1.0 c.requires.1.1 c.in-Tags.is c.in-Tags-b.is c.as_slice.ensures c.as_slice-in-Tags-b.ensures in
    (omega (arith, c.decreases), ((k.0, tags_joined _ _ _ _ _ k.1.0 k.1.1 c.in_ok-joined-in-Tags-b.ensures.value c.in_ok-joined-in-Tags-b.ensures.each), (tags_of_body _ _ _ _ _ c.requires.1.0 c.in-Tags.is refl).1))

pub join_body-join_rest-requires : goal.join_body-join_rest-requires
join_body-join_rest-requires t c = (
  omega (arith, c.decreases),
  (c.requires.0, (elements_fit _ _ _ _ c.requires.1.0 c.in_ok-elements-in-Product-b.ensures.value c.in_ok-elements-in-Product-b.ensures.each, product_of_body _ _ _ _ c.requires.1.1 c.in-Product-b.is)),
)

pub join_body-join_rest-requires-in-Product : goal.join_body-join_rest-requires-in-Product
join_body-join_rest-requires-in-Product t c = (
  omega (arith, c.decreases),
  (c.requires.0, (product_of_body _ _ _ _ c.requires.1.0 c.in-Product.is, elements_fit _ _ _ _ c.requires.1.1 c.in_ok-elements-in-Product.ensures.value c.in_ok-elements-in-Product.ensures.each)),
)

pub join_parts-returns-clause-fits : goal.join_parts-returns-clause-fits
join_parts-returns-clause-fits t c =
    parts_fit _ _ _ _ c.requires.a c.requires.b (λ n. record { plain = c.in_ok-plain.ensures n; cell = c.in_ok-cell.ensures.value n; tuples = c.in_ok-tuples.ensures.value n }) (c.in_ok-cell.ensures.each, c.in_ok-tuples.ensures.each)

pub join_rest-returns-then-leq_row-clause-value : goal.join_rest-returns-then-leq_row-clause-value
join_rest-returns-then-leq_row-clause-value t c =
    IfOk-weaker c.share.result _ _ (λ j e. rows_above _ _ _ _ _ _ j c.requires.1.0 c.requires.1.1 c.as_slice-one.ensures c.as_slice-two.ensures (c.leq_row.ensures.0 c.if-leq_row.true) e) c.share.ensures

pub join_rest-returns-then-leq_row-2-clause-value : goal.join_rest-returns-then-leq_row-2-clause-value
join_rest-returns-then-leq_row-2-clause-value t c =
    IfOk-weaker c.share-then-leq_row-2.result _ _ (λ j e. rows_below _ _ _ _ _ _ j c.requires.1.0 c.requires.1.1 c.as_slice-one.ensures c.as_slice-two.ensures (c.leq_row-2.ensures.0 c.if-leq_row-2.true) e) c.share-then-leq_row-2.ensures

pub join_rests-join_row-requires : goal.join_rests-join_row-requires
join_rests-join_row-requires t c =
    let next = rest_fits c.args.level c.requires.0 c.args.tags.now c.requires.1 c.loop-i.i c.index-tags-i.result (omega arith) c.index-tags-i.is in (
      omega (arith, c.decreases),
      (
        c.requires.0,
        (
          row_is _ _ _ _ c.as_slice-in-loop-i.ensures (c.loop-i.invariant.fits _ c.requires.1),
          row_is _ _ _ _ (c.as_slice-in-loop-i-2.ensures ∙ sym (ap (λ (x : TagOf Node). x.rest) c.index-tags-i.is)) next,
        ),
      ),
    )

pub join_rests-loop-i-preserved : goal.join_rests-loop-i-preserved
join_rests-loop-i-preserved t c =
    let rest = c.as_slice-in-loop-i-2.ensures ∙ sym (ap (λ (x : TagOf Node). x.rest) c.index-tags-i.is) in
    record {
      value = grind (arith, drop_next);
      fits = λ n k. joined_fits _ _ _ _ _ (row_is _ _ _ _ c.as_slice-in-loop-i.ensures (c.loop-i.invariant.fits n k))
          (row_is _ _ _ _ rest (rest_fits _ _ _ k _ _ (omega arith) c.index-tags-i.is)) c.in_ok-out-2.ensures.value c.in_ok-out-2.ensures.each;
      each = c.in_ok-out-2.ensures.each;
    }

pub join_sizes-put_size-requires : goal.join_sizes-put_size-requires
join_sizes-put_size-requires t c = (
  omega (arith, c.decreases),
  (sizes_so_far _ _ _ _ _ c.requires.a c.requires.b c.loop-size.invariant.value c.loop-size.invariant.each, size_fits _ _ c.requires.b _ _ c.loop-size-test.true c.size-item.is),
)

pub join_tags-put_tag-requires : goal.join_tags-put_tag-requires
join_tags-put_tag-requires t c = (
  omega (arith, c.decreases),
  (c.requires.0, (tags_so_far _ _ _ _ _ _ c.requires.1.0 c.requires.1.1 c.loop-tag.invariant.value c.loop-tag.invariant.each, rest_fits _ _ _ c.requires.1.1 _ _ c.loop-tag-test.true c.tag-item.is)),
)

pub put_size-join_body-requires : goal.put_size-join_body-requires
put_size-join_body-requires t c = (
  omega (arith, c.decreases),
  (c.args.size.now.size, (size_there _ _ _ _ _ _ c.requires.sizes c.as_slice.ensures.value (c.in-Ok.ensures.found c.args.level) c.in-Ok.ensures.found_within c.index.ensures, c.requires.size)),
)

pub put_size-returns-in_ok-body-in-Ok-clause-value :
    goal.put_size-returns-in_ok-body-in-Ok-clause-value
put_size-returns-in_ok-body-in-Ok-clause-value t c =
    entry_found nat_cmp (body_join (ops c.args.level)) (size_entry c.args.level) _ _ _ _ _ _ _ c.as_slice.ensures.value
    (c.in-Ok.ensures.found c.args.level) c.in-Ok.ensures.found_within c.index_mut.ensures.value c.index.ensures refl c.in_ok-body-in-Ok.ensures.value

pub put_tag-join_rest-requires : goal.put_tag-join_rest-requires
put_tag-join_rest-requires t c =
    let within : c.in-Ok.at < length c.args.tags.now.items = rw c.as_slice.ensures.value at c.in-Ok.ensures.found_within in
    (omega (arith, c.decreases), (c.requires.0, (rest_fits _ _ _ c.requires.1.0 _ _ within c.index.ensures, c.requires.1.1)))

pub put_tag-returns-in_ok-rest-in-Ok-clause-value :
    goal.put_tag-returns-in_ok-rest-in-Ok-clause-value
put_tag-returns-in_ok-rest-in-Ok-clause-value t c =
    entry_found name_cmp (row_join (ops c.args.level)) (tag_entry c.args.level) _ _ _ _ _ _ _ c.as_slice.ensures.value
    (c.in-Ok.ensures.found c.args.level) c.in-Ok.ensures.found_within c.index_mut.ensures.value c.index.ensures refl c.in_ok-rest-in-Ok.ensures.value
