use Rattle.std.proofs.Common.{◌≡◌, ◌++◌, ◌∷◌, [], inl, inr, refl, sym, ap, ◌∙◌, subst, rules}
use Rattle.std.proofs.lemmas.Result.{err_from_is_err_and}
use Rattle.type_lattice_model.specs.Operations.{ops}
use Rattle.type_lattice_trees.specs.declared.node.Node.TheVariants as v
use Rattle.type_lattice_trees.specs.View.{view, row_view, tags_view, body_view, sizes_view, Fits}
use Rattle.type_lattice_trees.proofs.Views.{any_fits, each_more}
use Rattle.type_lattice_trees.proofs.MeetViews.{each_tag_more, each_size_more}
use Rattle.type_bytes.specs.steps.Reading.{Reads, element_at, tag_at, size_at}
use Rattle.type_bytes.proofs.FormatLaws.{are_bytes}
use Rattle.type_bytes.proofs.Loops.{read_more}
use Rattle.type_bytes.proofs.ReadTrees.{IsMade, any_read, none_read, behind_fails, of_read, any_not_read, tags_read, body_not_read, row_more, tags_more, sizes_more}
use Rattle.type_bytes.proofs.reading.+reading.Goals as goal

pub read_behind-returns-then-first-eq1-clause-fits : goal.read_behind-returns-then-first-eq1-clause-fits
read_behind-returns-then-first-eq1-clause-fits t c = any_fits v.Any refl c.args.level

pub read_behind-returns-then-first-eq1-clause-read : goal.read_behind-returns-then-first-eq1-clause-read
read_behind-returns-then-first-eq1-clause-read t c = any_read c.args.level c.args.first c.args.bytes.now c.if-first-eq1.true

pub read_behind-returns-then-level-eq0-clause-read : goal.read_behind-returns-then-level-eq0-clause-read
read_behind-returns-then-level-eq0-clause-read t c = none_read c.args.level c.args.first c.args.bytes.now c.if-first-eq1.false (inl c.if-level-eq0.true)

pub read_behind-returns-then-first-ne2-clause-read : goal.read_behind-returns-then-first-ne2-clause-read
read_behind-returns-then-first-ne2-clause-read t c = none_read c.args.level c.args.first c.args.bytes.now c.if-first-eq1.false (inr c.if-first-ne2.true)

pub read_behind-returns-in_err-parts-clause-read : goal.read_behind-returns-in_err-parts-clause-read
read_behind-returns-in_err-parts-clause-read t c =
    let p = err_from_is_err_and c.from_residual.result c.from_residual.ensures.1 in
    rw (p.1, p.2) (behind_fails c.args.level c.args.first c.args.bytes.now c.if-level-eq0.false c.if-first-ne2.false c.in_err-parts.field-0.0 c.in_err-parts.ensures.read)

pub read_behind-returns-in-Any-clause-read : goal.read_behind-returns-in-Any-clause-read
read_behind-returns-in-Any-clause-read t c =
    any_not_read c.args.level c.args.first c.args.bytes.now c.in_ok-parts.rest.now c.in_ok-parts.parts c.made.result c.if-level-eq0.false c.if-first-ne2.false
    (are_bytes c.args.bytes.now (λ i. (c.type_inv.bytes i).fits)) c.in_ok-parts.ensures.each c.in_ok-parts.ensures.read (record { fits = c.made.ensures.fits; value = c.made.ensures.value }) c.in-Any.is

pub read_behind-returns-in-Of-clause-fits : goal.read_behind-returns-in-Of-clause-fits
read_behind-returns-in-Of-clause-fits t c =
    let made : IsMade c.in_ok-parts.parts c.made.result = record { fits = c.made.ensures.fits; value = c.made.ensures.value } in
    (of_read c.args.level c.args.first c.args.bytes.now c.in_ok-parts.rest.now c.in_ok-parts.parts c.in-Of.parts (v.Of c.in-Of.parts) c.if-level-eq0.false c.if-first-ne2.false
    (are_bytes c.args.bytes.now (λ i. (c.type_inv.bytes i).fits)) c.in_ok-parts.ensures.each c.in_ok-parts.ensures.read (subst (IsMade c.in_ok-parts.parts) c.in-Of.is made) refl).0

pub read_behind-returns-in-Of-clause-read : goal.read_behind-returns-in-Of-clause-read
read_behind-returns-in-Of-clause-read t c =
    let made : IsMade c.in_ok-parts.parts c.made.result = record { fits = c.made.ensures.fits; value = c.made.ensures.value } in
    (of_read c.args.level c.args.first c.args.bytes.now c.in_ok-parts.rest.now c.in_ok-parts.parts c.in-Of.parts (v.Of c.in-Of.parts) c.if-level-eq0.false c.if-first-ne2.false
    (are_bytes c.args.bytes.now (λ i. (c.type_inv.bytes i).fits)) c.in_ok-parts.ensures.each c.in_ok-parts.ensures.read (subst (IsMade c.in_ok-parts.parts) c.in-Of.is made) refl).1

pub read_body-returns-then-size-eq0-clause-read : goal.read_body-returns-then-size-eq0-clause-read
read_body-returns-then-size-eq0-clause-read t c = body_not_read c.args.level c.args.size c.in-Some.first.now c.args.bytes.now c.in-Some.rest.now (search rules) c.if-first-eq0.false (inl c.if-size-eq0.true)

pub read_body-returns-then-level-eq0-clause-read : goal.read_body-returns-then-level-eq0-clause-read
read_body-returns-then-level-eq0-clause-read t c = body_not_read c.args.level c.args.size c.in-Some.first.now c.args.bytes.now c.in-Some.rest.now (search rules) c.if-first-eq0.false (inr (inl c.if-level-eq0.true))

pub read_body-returns-then-first-gt13-clause-read : goal.read_body-returns-then-first-gt13-clause-read
read_body-returns-then-first-gt13-clause-read t c = body_not_read c.args.level c.args.size c.in-Some.first.now c.args.bytes.now c.in-Some.rest.now (search rules) c.if-first-eq0.false (inr (inr c.if-first-gt13.true))

pub read_body-returns-clause-read : goal.read_body-returns-clause-read
read_body-returns-clause-read t c =
    let same = tags_read c.args.level c.args.size c.in-Some.first.now c.args.bytes.now c.in-Some.rest.now (search rules) c.if-first-eq0.false c.if-size-eq0.false c.if-level-eq0.false c.if-first-gt13.false in
    subst (Reads (λ p. (body_view c.args.level p.0, p.1.now)) c.read_tags.result) (sym same) c.read_tags.ensures.read

pub read_row-loop-preserved : goal.read_row-loop-preserved
read_row-loop-preserved t c =
    let d = c.args.level in
    let n = c.in_ok-element.element in
    let added : c.add.new.self ≡ c.loop.row ++ n ∷ [] = c.in_ok-add.ensures.ok ∙ ap (λ x. c.loop.row ++ x ∷ []) c.in_ok-new.ensures in
    record {
      each = each_more (Fits d) c.add.new.self c.loop.row n added c.loop.invariant.each c.in_ok-element.ensures.fits;
      read = read_more (element_at d) c.args.count c.loop.counter c.loop.rest.now (row_view d c.loop.row) _ (row_view d c.add.new.self) (view d n) c.in_ok-element.after.now c.loop-test.true
          (ap (row_view d) added ∙ row_more d c.loop.row n) c.in_ok-element.ensures.read c.loop.invariant.read;
    }

pub list_tags-loop-preserved : goal.list_tags-loop-preserved
list_tags-loop-preserved t c =
    let d = c.args.level in
    let g = c.in_ok-tag.tag in
    record {
      each = each_tag_more (Fits d) c.add.new.self c.loop.list g c.in_ok-add.ensures.ok c.loop.invariant.each c.in_ok-tag.ensures.each;
      read = read_more (tag_at (ops d) (element_at d) c.args.size) c.args.count c.loop.counter c.loop.rest.now (tags_view d c.loop.list) _ (tags_view d c.add.new.self) (g.atom, row_view d g.rest) c.in_ok-tag.after.now c.loop-test.true
          (ap (tags_view d) c.in_ok-add.ensures.ok ∙ tags_more d c.loop.list g) c.in_ok-tag.ensures.read c.loop.invariant.read;
    }

pub list_sizes-loop-preserved : goal.list_sizes-loop-preserved
list_sizes-loop-preserved t c =
    let d = c.args.level in
    let s = c.in_ok-size.size in
    record {
      each = each_size_more (Fits d) c.add.new.self c.loop.list s c.in_ok-add.ensures.ok c.loop.invariant.each c.in_ok-size.ensures.each;
      read = read_more (size_at (ops d) (element_at d)) c.args.count c.loop.counter c.loop.rest.now (sizes_view d c.loop.list) _ (sizes_view d c.add.new.self) (s.size, body_view d s.body) c.in_ok-size.after.now c.loop-test.true
          (ap (sizes_view d) c.in_ok-add.ensures.ok ∙ sizes_more d c.loop.list s) c.in_ok-size.ensures.read c.loop.invariant.read;
    }
