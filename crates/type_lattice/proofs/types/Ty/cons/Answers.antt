use Rattle.std.proofs.Common.{◌≡◌, ◌&&◌, inl, inr, refl, sym, ap, ◌∙◌}
use Rattle.type_lattice_model.specs.Operations.{ops}
use Rattle.type_lattice_model.specs.Parts.{is_list}
use Rattle.type_lattice_trees.specs.View.{view}
use Rattle.type_lattice.specs.Types.{same_type, cons}
use Rattle.type_lattice.specs.Kinds.{asks_proper}
use Rattle.type_lattice.proofs.TypeLaws.{laws}
use Rattle.type_lattice.proofs.TypeModels.{cons_none, cons_filled, element_filled, ends_asked}
use Rattle.type_lattice.proofs.types.Ty.cons.Goals as goal
use Rattle.type_lattice.proofs.types.Ty.cons.Goals.{then-is_none-via-then-is_none, then-is_none-via-else-is_none+then-is_none-2, then-eq, else-eq}

pub returns-then-is_none : goal.returns-then-is_none
returns-then-is_none c =
    let e = cons_none c.args.head.now c.args.tail.now c.none.result (asks_proper c.args.ends) (elim c.then-is_none.branch [
      | then-is_none-via-then-is_none w ↦ inl (sym c.is_none.ensures.value ∙ w.if-is_none.true)
      | then-is_none-via-else-is_none+then-is_none-2 w ↦ inr (sym w.is_none-else-is_none.ensures.value ∙ w.if-is_none-2.true)
    ]) c.none.ensures.value in
    rw e (record { value = refl; above = laws.cons-has _ _ _; least = λ p. rw p (laws.cons-least _ _) })

pub of_node-requires : goal.of_node-requires
of_node-requires c =
    let head_filled = sym c.is_none.ensures.value ∙ c.if-is_none.false in
    let tail_filled = sym c.is_none-else-is_none.ensures.value ∙ c.if-is_none-2.false in
    let filled = element_filled c.args.head.now c.args.tail.now head_filled tail_filled in
    c.in_ok-lists_of.ensures.fits 3 c.in_ok-element.ensures.fits (rw (c.in_ok-element.ensures.value, c.in_ok-low.ensures.value, ap (λ t. t.ty) c.head.view_is, ap (λ t. t.ty) c.tail.view_is) filled)

pub returns : goal.returns
returns c =
    let ends : c.if-eq.is_proper ≡ (asks_proper c.args.ends && is_list (ops 3) (view 4 c.tail.inside.kept.node)) =
    elim c.if-eq.branch [
      | then-eq w ↦ rw (ends_asked c.args.ends c.eq.result c.eq.ensures, w.if-eq.true) (w.is_proper-is ∙ w.is_list-is_proper.ensures)
      | else-eq w ↦ rw (ends_asked c.args.ends c.eq.result c.eq.ensures, w.if-eq.false) (w.is_proper-is ∙ w.if-eq.false)
    ] in
    let head_filled = sym c.is_none.ensures.value ∙ c.if-is_none.false in
    let tail_filled = sym c.is_none-else-is_none.ensures.value ∙ c.if-is_none-2.false in
    let made = cons_filled c.args.head.now c.args.tail.now (asks_proper c.args.ends) head_filled tail_filled in
    let is = c.of_node.ensures ∙ c.in_ok-lists_of.ensures.value 3 in
    let e = same_type c.of_node.result (cons c.args.head.now c.args.tail.now (asks_proper c.args.ends)) (
    rw (made, ← c.head.view_is, ← c.tail.view_is, ← ends, ← c.in_ok-low.ensures.value, ← c.in_ok-element.ensures.value) is
    ) in
    rw e (record { value = refl; above = laws.cons-has _ _ _; least = λ p. rw p (laws.cons-least _ _) })
