use Rattle.std.proofs.Common.{◌++◌, ◌∷◌, ◌-◌, [], ap, arith, length, subst, sym, ◌∙◌, append_assoc}
use Rattle.std.specs.Prelude.{IsTrue}
use Rattle.std.specs.List.{list_all}
use Rattle.std.proofs.lemmas.Result.{on_ok_weaker}
use Rattle.std.proofs.lemmas.List.{append-nil}
use Rattle.type_kinds.proofs.Truths.{first, second}
use Rattle.type_lattice_trees.specs.View.{view, Fits, EachNode, row_view, body_view, tuples_view, parts_view}
use Rattle.type_lattice_trees.proofs.Views.{of_above, below_fits, each_at, tag_at}
use Rattle.type_lattice_trees.proofs.Inclusions.{size_fits}
use Rattle.type_bytes.specs.Spelling.{two_bytes, parts_of, all_bytes, tag_bytes, size_bytes, bytes_at}
use Rattle.type_bytes.specs.ShortNames.{is_short, are_short, are_short_tuples, is_short_tag, is_short_body, is_short_at}
use Rattle.type_bytes.proofs.Fronts.{still_front}
use Rattle.type_bytes.proofs.Writes.{bytes_of_any, bytes_of_none, bytes_of_some, short_parts, chained, parts_in_row, row_bytes, tags_bytes, sizes_bytes, row_bytes-append}
use Rattle.type_bytes.proofs.Writes.{tags_bytes-append, sizes_bytes-append, one_more, short_at, short_tag_at, short_size_at, product_items, tags_items, tags_body, sizes_items, sizes_part}
use Rattle.type_bytes.proofs.writing.+write.Goals as goal

pub append_type-overflow_sub-level : goal.append_type-overflow_sub-level
append_type-overflow_sub-level t c = of_above c.args.t.now c.in-Of.parts c.in-Of.is c.args.level c.requires.fits

pub append_type-append_parts-requires : goal.append_type-append_parts-requires
append_type-append_parts-requires t c = (
  omega (arith, c.decreases, of_above c.args.t.now c.in-Of.parts c.in-Of.is c.args.level c.requires.fits),
  (below_fits c.args.t.now c.in-Of.parts c.in-Of.is c.args.level c.requires.fits, short_parts c.args.t.now c.in-Of.parts c.in-Of.is c.args.level c.requires.fits c.requires.short),
)

pub append_type-returns-in_default-clause-ok : goal.append_type-returns-in_default-clause-ok
append_type-returns-in_default-clause-ok t c =
    on_ok_weaker c.append.result (λ e. e ∙ ap (λ w. c.args.out.now ++ w) (sym (bytes_of_any c.args.t.now c.in_default.is c.args.level))) c.append.ensures.ok

pub append_type-returns-then-is_none-clause-ok : goal.append_type-returns-then-is_none-clause-ok
append_type-returns-then-is_none-clause-ok t c =
    let none = sym c.if-is_none.true ∙ c.is_none.ensures c.args.level c.requires.fits in
    on_ok_weaker c.append-then-is_none.result (λ e. e ∙ ap (λ w. c.args.out.now ++ w) (sym (bytes_of_none c.args.t.now c.in-Of.parts c.in-Of.is c.args.level c.requires.fits none))) c.append-then-is_none.ensures.ok

pub append_type-returns-clause-ok : goal.append_type-returns-clause-ok
append_type-returns-clause-ok t c =
    let some = sym c.if-is_none.false ∙ c.is_none.ensures c.args.level c.requires.fits in
    on_ok_weaker c.append_parts.result
    (λ e.
    e
    ∙ ap (λ b. b ++ all_bytes (parts_of (bytes_at (c.args.level - 1)) (parts_view (c.args.level - 1) c.in-Of.parts))) c.in_ok-append.ensures.ok
    ∙ append_assoc c.args.out.now (2 ∷ []) (all_bytes (parts_of (bytes_at (c.args.level - 1)) (parts_view (c.args.level - 1) c.in-Of.parts)))
    ∙ ap (λ w. c.args.out.now ++ w) (sym (bytes_of_some c.args.t.now c.in-Of.parts c.in-Of.is c.args.level c.requires.fits some)))
    c.append_parts.ensures.ok

pub append_type-returns-clause-front : goal.append_type-returns-clause-front
append_type-returns-clause-front t c = still_front c.args.out.now c.append-2.new.self c.append_parts.new.out _ c.in_ok-append.ensures.ok c.append_parts.ensures.front

pub append_parts-append_cell-requires : goal.append_parts-append_cell-requires
append_parts-append_cell-requires t c =
    let lists = first _ (are_short_tuples (is_short_at c.args.level) (tuples_view c.args.level c.args.parts.now.tuples)) c.requires.short in
    (omega (arith, c.decreases), (c.requires.fits.each.0, second (are_short c.args.parts.now.plain.atoms) _ lists))

pub append_parts-append_tuples-requires : goal.append_parts-append_tuples-requires
append_parts-append_tuples-requires t c =
    (omega (arith, c.decreases), (record { normal = c.requires.fits.normal.2; each = c.requires.fits.each.1 }, second _ (are_short_tuples (is_short_at c.args.level) (tuples_view c.args.level c.args.parts.now.tuples)) c.requires.short))

pub append_parts-returns-in_err-append_cell-clause-front : goal.append_parts-returns-in_err-append_cell-clause-front
append_parts-returns-in_err-append_cell-clause-front t c =
    still_front c.args.out.now c.append_mask.new.out c.append_cell.new.out _ c.in_ok-append_mask.ensures.ok
    (still_front c.append_mask.new.out c.append_plain.new.out c.append_cell.new.out _ c.in_ok-append_plain.ensures.ok c.append_cell.ensures.front)

pub append_parts-returns-clause-ok : goal.append_parts-returns-clause-ok
append_parts-returns-clause-ok t c =
    let p = parts_view c.args.level c.args.parts.now in
    on_ok_weaker c.append_tuples.result
    (λ tuples.
    chained c.args.out.now c.append_mask.new.out c.append_plain.new.out c.append_cell.new.out c.append_tuples.new.out _ _ _ _ c.in_ok-append_mask.ensures.ok c.in_ok-append_plain.ensures.ok c.in_ok-append_cell.ensures.ok tuples
    ∙ (λ i. c.args.out.now ++ (two_bytes (c.mask_of.ensures c.args.level i) ++ sym (parts_in_row (bytes_at c.args.level) p) i)))
    c.append_tuples.ensures.ok

pub append_parts-returns-clause-front : goal.append_parts-returns-clause-front
append_parts-returns-clause-front t c =
    still_front c.args.out.now c.append_mask.new.out c.append_tuples.new.out _ c.in_ok-append_mask.ensures.ok
    (still_front c.append_mask.new.out c.append_plain.new.out c.append_tuples.new.out _ c.in_ok-append_plain.ensures.ok
    (still_front c.append_plain.new.out c.append_cell.new.out c.append_tuples.new.out _ c.in_ok-append_cell.ensures.ok c.append_tuples.ensures.front))

pub append_row-append_type-requires : goal.append_row-append_type-requires
append_row-append_type-requires t c =
    let d = c.args.level in
    let i = c.loop-element.element-index in
    let x = c.element-item.result in (
      omega (arith, c.decreases),
      (
        subst (Fits d) (sym (c.get.ensures ∙ c.element-item.is)) (each_at (Fits d) c.args.row.now c.requires.fits i x c.loop-element-test.true),
        subst (λ y. IsTrue (is_short_at d (view d y))) (sym (c.get.ensures ∙ c.element-item.is)) (short_at (is_short_at d) (view d) c.args.row.now c.requires.short i x c.loop-element-test.true),
      ),
    )

pub append_row-loop-element-preserved : goal.append_row-loop-element-preserved
append_row-loop-element-preserved t c =
    let d = c.args.level in
    let x = c.element-item.result in
    one_more (row_bytes d) (row_bytes-append d) c.args.row.now c.loop-element.element-index x x c.loop-element-test.true c.element-item.is [] c.args.out.now c.loop-element.out _ _ c.loop-element.invariant c.in_ok-append_type.ensures.ok
    (ap (λ n. bytes_at d (view d n)) c.get.ensures ∙ sym (append-nil (bytes_at d (view d x))))

pub append_size-append_row-requires : goal.append_size-append_row-requires
append_size-append_row-requires t c = (
  omega (arith, c.decreases),
  product_items c.args.level c.args.size.now.size c.args.size.now.body c.in-Product.row c.as_slice.result.now c.in-Product.is c.as_slice.ensures c.requires.fits c.requires.short,
)

pub append_size-append_tags-requires : goal.append_size-append_tags-requires
append_size-append_tags-requires t c = (
  omega (arith, c.decreases),
  tags_items c.args.level c.args.size.now.size c.args.size.now.body c.in-Tags.tags c.as_slice-in-Tags.result.now c.in-Tags.is c.as_slice-in-Tags.ensures c.requires.fits c.requires.short,
)

pub append_size-returns-in_ok-append-in-Product-clause-front : goal.append_size-returns-in_ok-append-in-Product-clause-front
append_size-returns-in_ok-append-in-Product-clause-front t c = still_front c.args.out.now c.append.new.self c.append_row.new.out _ c.in_ok-append-in-Product.ensures.ok c.append_row.ensures.front

pub append_size-returns-in_ok-append-in-Tags-clause-ok : goal.append_size-returns-in_ok-append-in-Tags-clause-ok
append_size-returns-in_ok-append-in-Tags-clause-ok t c =
    let d = c.args.level in
    let ts = c.as_slice-in-Tags.result.now in
    on_ok_weaker c.append_tags.result
    (λ e.
    e
    ∙ ap (λ b. b ++ (length ts ∷ tags_bytes d ts)) c.in_ok-append-in-Tags.ensures.ok
    ∙ append_assoc c.args.out.now (c.args.size.now.size ∷ []) (length ts ∷ tags_bytes d ts)
    ∙ ap (λ b. c.args.out.now ++ (c.args.size.now.size ∷ b)) (tags_body d c.args.size.now.body c.in-Tags.tags ts c.in-Tags.is c.as_slice-in-Tags.ensures))
    c.append_tags.ensures.ok

pub append_size-returns-in_ok-append-in-Tags-clause-front : goal.append_size-returns-in_ok-append-in-Tags-clause-front
append_size-returns-in_ok-append-in-Tags-clause-front t c = still_front c.args.out.now c.append-in-Tags.new.self c.append_tags.new.out _ c.in_ok-append-in-Tags.ensures.ok c.append_tags.ensures.front

pub append_sizes-loop-size-preserved : goal.append_sizes-loop-size-preserved
append_sizes-loop-size-preserved t c =
    let d = c.args.level in
    let x = c.size-item.result in
    one_more (sizes_bytes d) (sizes_bytes-append d) c.args.sizes.now c.loop-size.size-index x x c.loop-size-test.true c.size-item.is
    (length c.args.sizes.now ∷ []) c.args.out.now c.loop-size.out _ _ c.loop-size.invariant c.in_ok-append_size.ensures.ok (sym (append-nil (size_bytes (bytes_at d) (x.size, body_view d x.body))))

pub append_tags-loop-tag-preserved : goal.append_tags-loop-tag-preserved
append_tags-loop-tag-preserved t c =
    let d = c.args.level in
    let x = c.tag-item.result in
    one_more (tags_bytes d) (tags_bytes-append d) c.args.tags.now c.loop-tag.tag-index x x c.loop-tag-test.true c.tag-item.is
    (length c.args.tags.now ∷ []) c.args.out.now c.loop-tag.out _ _ c.loop-tag.invariant c.in_ok-append_tag.ensures.ok (sym (append-nil (tag_bytes (bytes_at d) (x.atom, row_view d x.rest))))

pub append_sizes-append_size-requires : goal.append_sizes-append_size-requires
append_sizes-append_size-requires t c =
    let d = c.args.level in
    let i = c.loop-size.size-index in
    let x = c.size-item.result in (
      omega (arith, c.decreases),
      (
        size_fits d c.args.sizes.now c.requires.fits i x c.loop-size-test.true c.size-item.is,
        subst (λ y. IsTrue (is_short_body (is_short_at d) (body_view d y.body))) (sym c.size-item.is) (short_size_at d c.args.sizes.now c.requires.short i x c.loop-size-test.true),
      ),
    )

pub append_tag-append_row-requires : goal.append_tag-append_row-requires
append_tag-append_row-requires t c = (
  omega (arith, c.decreases),
  (
    subst (EachNode (Fits c.args.level)) (sym c.as_slice.ensures) c.requires.fits,
    subst (λ x. IsTrue (list_all (is_short_at c.args.level) (row_view c.args.level x))) (sym c.as_slice.ensures) c.requires.short,
  ),
)

pub append_tags-append_tag-requires : goal.append_tags-append_tag-requires
append_tags-append_tag-requires t c =
    let d = c.args.level in
    let i = c.loop-tag.tag-index in
    let x = c.tag-item.result in
    let short = subst (λ y. IsTrue (is_short_tag (is_short_at d) (y.atom, row_view d y.rest))) (sym c.tag-item.is) (short_tag_at d c.args.tags.now c.requires.short i x c.loop-tag-test.true) in
    (omega (arith, c.decreases), (subst (λ y. EachNode (Fits d) y.rest) (sym c.tag-item.is) (tag_at (Fits d) c.args.tags.now c.requires.fits i x c.loop-tag-test.true), (first (is_short x.atom) _ short, second (is_short x.atom) _ short)))

pub append_tuples-append_sizes-requires : goal.append_tuples-append_sizes-requires
append_tuples-append_sizes-requires t c = (omega (arith, c.decreases), sizes_items c.args.level c.args.tuples.now c.in-Sizes.sizes c.as_slice.result.now c.in-Sizes.is c.as_slice.ensures c.requires.fits c.requires.short)

pub append_tuples-returns-else-is_empty-clause-ok : goal.append_tuples-returns-else-is_empty-clause-ok
append_tuples-returns-else-is_empty-clause-ok t c =
    let part = sizes_part c.args.level c.args.tuples.now c.in-Sizes.sizes c.as_slice.result.now c.is_empty.result c.in-Sizes.is c.as_slice.ensures c.is_empty.ensures c.if-is_empty.false in
    on_ok_weaker c.append_sizes.result (λ e. e ∙ ap (λ b. c.args.out.now ++ b) part) c.append_sizes.ensures.ok
