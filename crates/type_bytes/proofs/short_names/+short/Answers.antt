use Rattle.std.proofs.Common.{refl, arith, ap, subst, sym, ◌∙◌}
use Rattle.type_lattice_trees.specs.View.{view, row_view, tags_view, sizes_view, Fits, EachNode, EachInBody}
use Rattle.type_lattice_trees.proofs.Views.{of_above, below_fits, size_at, tag_at}
use Rattle.type_bytes.specs.ShortNames.{is_short_tag, is_short_size, is_short_at}
use Rattle.type_bytes.proofs.Shorts.{not_all, one_more, tag_view, same_tags, size_view, same_sizes, short_any, short_of}
use Rattle.type_bytes.proofs.short_names.+short.Goals as goal

pub is_short-overflow_sub-level : goal.is_short-overflow_sub-level
is_short-overflow_sub-level t c = of_above c.args.t.now c.in-Of.parts c.in-Of.is c.args.level c.requires

pub is_short-are_short_parts-requires : goal.is_short-are_short_parts-requires
is_short-are_short_parts-requires t c =
    (omega (arith, c.decreases, of_above c.args.t.now c.in-Of.parts c.in-Of.is c.args.level c.requires), (below_fits c.args.t.now c.in-Of.parts c.in-Of.is c.args.level c.requires).each)

pub is_short-returns-in-Any : goal.is_short-returns-in-Any
is_short-returns-in-Any t c = short_any c.args.t.now c.in-Any.is c.args.level

pub is_short-returns-in-Of : goal.is_short-returns-in-Of
is_short-returns-in-Of t c = c.are_short_parts.ensures ∙ short_of c.args.t.now c.in-Of.parts c.in-Of.is c.args.level c.requires

pub are_short_sizes-is_short_body-requires : goal.are_short_sizes-is_short_body-requires
are_short_sizes-is_short_body-requires t c =
    (omega (arith, c.decreases), subst (λ x. EachInBody (Fits c.args.level) x.body) (sym c.size-item.is) (size_at (Fits c.args.level) c.args.sizes.now c.requires c.loop-size.size-index c.size-item.result c.loop-size-test.true))

pub are_short_sizes-returns-then-not-is_short_body : goal.are_short_sizes-returns-then-not-is_short_body
are_short_sizes-returns-then-not-is_short_body t c =
    let d = c.args.level in
    not_all (is_short_size (is_short_at d)) (sizes_view d) (size_view d) (same_sizes d) c.args.sizes.now c.loop-size.size-index c.size-item.result c.loop-size-test.true c.size-item.is c.is_short_body.result c.is_short_body.ensures
    c.if-not-is_short_body.true

pub are_short_sizes-loop-size-preserved : goal.are_short_sizes-loop-size-preserved
are_short_sizes-loop-size-preserved t c =
    let d = c.args.level in
    one_more (is_short_size (is_short_at d)) (sizes_view d) (size_view d) (same_sizes d) c.args.sizes.now c.loop-size.size-index c.size-item.result c.loop-size-test.true c.size-item.is c.is_short_body.result c.is_short_body.ensures
    c.if-not-is_short_body.false c.loop-size.invariant

pub are_short_tags-is_short_tag-requires : goal.are_short_tags-is_short_tag-requires
are_short_tags-is_short_tag-requires t c =
    (omega (arith, c.decreases), subst (λ x. EachNode (Fits c.args.level) x.rest) (sym c.tag-item.is) (tag_at (Fits c.args.level) c.args.tags.now c.requires c.loop-tag.tag-index c.tag-item.result c.loop-tag-test.true))

pub are_short_tags-returns-then-not-is_short_tag : goal.are_short_tags-returns-then-not-is_short_tag
are_short_tags-returns-then-not-is_short_tag t c =
    let d = c.args.level in
    not_all (is_short_tag (is_short_at d)) (tags_view d) (tag_view d) (same_tags d) c.args.tags.now c.loop-tag.tag-index c.tag-item.result c.loop-tag-test.true c.tag-item.is c.is_short_tag.result c.is_short_tag.ensures
    c.if-not-is_short_tag.true

pub are_short_tags-loop-tag-preserved : goal.are_short_tags-loop-tag-preserved
are_short_tags-loop-tag-preserved t c =
    let d = c.args.level in
    one_more (is_short_tag (is_short_at d)) (tags_view d) (tag_view d) (same_tags d) c.args.tags.now c.loop-tag.tag-index c.tag-item.result c.loop-tag-test.true c.tag-item.is c.is_short_tag.result c.is_short_tag.ensures
    c.if-not-is_short_tag.false c.loop-tag.invariant

pub is_short_row-returns-then-not-is_short : goal.is_short_row-returns-then-not-is_short
is_short_row-returns-then-not-is_short t c =
    let d = c.args.level in
    not_all (is_short_at d) (row_view d) (view d) (λ xs. refl) c.args.row.now c.loop-element.element-index c.element-item.result c.loop-element-test.true c.element-item.is c.is_short.result
    (c.is_short.ensures ∙ ap (λ n. is_short_at d (view d n)) c.get.ensures) c.if-not-is_short.true

pub is_short_row-loop-element-preserved : goal.is_short_row-loop-element-preserved
is_short_row-loop-element-preserved t c =
    let d = c.args.level in
    one_more (is_short_at d) (row_view d) (view d) (λ xs. refl) c.args.row.now c.loop-element.element-index c.element-item.result c.loop-element-test.true c.element-item.is c.is_short.result
    (c.is_short.ensures ∙ ap (λ n. is_short_at d (view d n)) c.get.ensures) c.if-not-is_short.false c.loop-element.invariant
