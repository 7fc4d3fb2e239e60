use Rattle.std.proofs.Common.{refl, ap, ◌∙◌}
use Rattle.std.proofs.lemmas.Bool.{le-ltb}
use Rattle.std.proofs.lemmas.List.{length-map}
use Rattle.type_lattice_model.specs.Operations.{ops}
use Rattle.type_lattice_model.specs.Cut as levels
use Rattle.type_lattice.specs.Types.{same_type, none, every_tuple, tuple}
use Rattle.type_lattice.proofs.TypeLaws.{laws}
use Rattle.type_lattice.proofs.types.Ty.tuple.Goals as goal

pub returns-then-any_none : goal.returns-then-any_none
unfolding none tuple levels.cut ops
returns-then-any_none c =
    let e = same_type c.none.result (tuple c.args.parts.now) (rw (c.none.ensures.value, ← c.if-any_none.ensures) refl) in
    rw e (record { value = refl; above = laws.tuple-has _; least = laws.tuple-least _ })

pub returns-then-parts-gt-MAX_ELEMENTS : goal.returns-then-parts-gt-MAX_ELEMENTS
unfolding every_tuple tuple levels.cut
returns-then-parts-gt-MAX_ELEMENTS c =
    let many = le-ltb _ 65 c.if-parts-gt-MAX_ELEMENTS.true in
    let e = same_type c.every_tuple.result (tuple c.args.parts.now) (rw (c.every_tuple.ensures, ← c.if-any_none.ensures, length-map c.args.parts.now (λ t. t.ty), many) refl) in
    rw e (record { value = refl; above = laws.tuple-has _; least = laws.tuple-least _ })

pub returns : goal.returns
unfolding tuple
returns c =
    let e = same_type c.of_node.result (tuple c.args.parts.now) (c.of_node.ensures ∙ c.in_ok-cut.ensures.value ∙ ap (levels.cut 5 4) c.in_ok-wide.ensures.value) in
    rw e (record { value = refl; above = laws.tuple-has _; least = laws.tuple-least _ })
