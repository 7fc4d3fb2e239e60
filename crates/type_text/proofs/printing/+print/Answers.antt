use Rattle.std.proofs.Common.{◌++◌, ◌∙◌, ap, arith, codes, subst, sym, map}
use Rattle.std.proofs.lemmas.Result.{on_ok_weaker}
use Rattle.std.proofs.lemmas.List.{append-nil, map-append}
use Rattle.type_text.specs.Texts.{text_at, tag_words, size_words}
use Rattle.type_text.specs.Adds.{Adds}
use Rattle.type_lattice_trees.specs.View.{view, row_view, tags_view, sizes_view}
use Rattle.type_text.proofs.Adding.{both, one_word, one_more}
use Rattle.type_text.proofs.Prints.{text_of_parts, tag_words-append, size_words-append}
use Rattle.type_text.proofs.printing.+print.Goals as goal

pub append_type-returns-clause-ok : goal.append_type-returns-clause-ok
append_type-returns-clause-ok t c = on_ok_weaker c.append_tuples.result
    (λ tuples.
    let parts = both (both c.in_ok-append_plain.ensures.ok c.in_ok-append_cell.ensures.ok) tuples in
    grind (arith, parts.text, text_of_parts c.args.t.now c.in-Of.parts c.in-Of.is c.args.level c.requires, c.is_none.ensures c.args.level c.requires))
    c.append_tuples.ensures.ok

pub append_sizes-loop-size-preserved : goal.append_sizes-loop-size-preserved
append_sizes-loop-size-preserved t c =
    one_more (λ ss. size_words (text_at c.args.level) (sizes_view c.args.level ss)) (λ ss us. grind (arith, size_words-append, map-append))
    c.args.sizes.now c.loop-size.size-index c.size-item.result c.size-item.result c.loop-size-test.true c.size-item.is c.loop-size.invariant
    (subst (λ ws. Adds (codes " | ") ws c.loop-size.some c.append_body.new.some c.loop-size.out c.append_body.new.out) (sym (append-nil _)) c.in_ok-append_body.ensures.ok)

pub append_tags-loop-tag-preserved : goal.append_tags-loop-tag-preserved
append_tags-loop-tag-preserved t c =
    one_more (λ ts. tag_words (text_at c.args.level) (tags_view c.args.level ts)) (λ ts us. grind (arith, tag_words-append, map-append))
    c.args.tags.now c.loop-tag.tag-index c.tag-item.result c.tag-item.result c.loop-tag-test.true c.tag-item.is c.loop-tag.invariant c.in_ok-append_tag.ensures.ok

pub append_row-loop-element-preserved : goal.append_row-loop-element-preserved
append_row-loop-element-preserved t c =
    one_more (λ ns. map (text_at c.args.level) (row_view c.args.level ns)) (λ ns ms. grind (arith, map-append))
    c.args.row.now c.loop-element.element-index c.element-item.result c.element-item.result c.loop-element-test.true c.element-item.is c.loop-element.invariant
    (one_word c.in_ok-separate.ensures.ok (text_at c.args.level (view c.args.level c.element-item.result)) c.append_type.new.out
    (c.in_ok-append_type.ensures.ok ∙ ap (λ n. c.separate.new.out ++ text_at c.args.level (view c.args.level n)) c.get.ensures))
