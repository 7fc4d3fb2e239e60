use Rattle.std.proofs.Common.{refl, ap, ◌∙◌, arith}
use Rattle.std.proofs.lemmas.Bool.{lt-ltb, le-ltb}
use Rattle.type_lattice_model.specs.Operations.{ops}
use Rattle.type_lattice_model.specs.Cut as levels
use Rattle.type_lattice_model.specs.Parts.{lifted}
use Rattle.type_lattice_trees.specs.View.{SizesFit}
use Rattle.type_lattice_trees.proofs.Views.{view_any, no_sizes}
use Rattle.type_lattice_trees.proofs.Inclusions.{found_fits}
use Rattle.type_lattice.specs.Types.{same_type, any, none, project}
use Rattle.type_lattice.proofs.TypeLaws.{laws}
use Rattle.type_lattice.proofs.TypeModels.{parts_tree, sizes_there, fits_up, view_up}
use Rattle.type_lattice.proofs.types.Ty.project.Goals as goal

pub returns-in_default : goal.returns-in_default
unfolding any project ops levels.cut
returns-in_default c =
    let p = project c.args.self.now c.args.size c.args.position in
    let e = same_type c.any.result p (rw (c.any.ensures.value, ← c.self.view_is, view_any _ c.in_default.is 4) refl) in
    rw e (record { value = refl; holds = laws.project-holds _ _ _ })

pub returns-in_default-tuples : goal.returns-in_default-tuples
unfolding any project ops levels.cut
returns-in_default-tuples c =
    let p = project c.args.self.now c.args.size c.args.position in
    let r = c.any-in_default-tuples in
    let e = same_type r.result p (rw (r.ensures.value, ← c.self.view_is, c.in-Of.is, parts_tree, c.in_default-tuples.is) refl) in
    rw e (record { value = refl; holds = laws.project-holds _ _ _ })

pub returns-then-is_empty : goal.returns-then-is_empty
unfolding none project
returns-then-is_empty c =
    let p = project c.args.self.now c.args.size c.args.position in
    let wide = le-ltb c.args.size 65 c.if-size.true in
    let e = same_type c.none.result p (rw (c.none.ensures.value, ← c.self.view_is, c.in-Of.is, parts_tree, c.in-Sizes.is, wide, c.is_empty.ensures.0 c.if-is_empty.true) refl) in
    rw e (record { value = refl; holds = laws.project-holds _ _ _ })

pub returns-then-size : goal.returns-then-size
unfolding any project ops levels.cut
returns-then-size c =
    let p = project c.args.self.now c.args.size c.args.position in
    let r = c.any-then-size in
    let wide = le-ltb c.args.size 65 c.if-size.true in
    let empty = no_sizes 3 c.in-Sizes.sizes c.is_empty.result c.is_empty.ensures in
    let e = same_type r.result p (rw (r.ensures.value, ← c.self.view_is, c.in-Of.is, parts_tree, c.in-Sizes.is, wide, ← empty, c.if-is_empty.false) refl) in
    rw e (record { value = refl; holds = laws.project-holds _ _ _ })

pub element_of-requires : goal.element_of-requires
element_of-requires c =
    let fit : SizesFit 3 c.as_slice.result.now = rw c.as_slice.ensures (sizes_there c.in-Of.parts c.in-Sizes.sizes (rw c.in-Of.is at c.self.invariant) c.in-Sizes.is) in
    (c.args.size, (found_fits 3 _ c.args.size c.in-Some.body.now fit (c.in-Some.ensures.value 3) (c.in-Some.ensures.each 3 fit.each), omega (arith, c.requires)))

pub of_node-requires : goal.of_node-requires
of_node-requires c = fits_up _ c.in_ok-element_of-in-Some.ensures.fits

pub returns-in-None : goal.returns-in-None
unfolding none project
returns-in-None c =
    let p = project c.args.self.now c.args.size c.args.position in
    let r = c.none-in-None in
    let narrow = lt-ltb c.args.size 65 (omega arith) in
    let e = same_type r.result p (rw (r.ensures.value, ← c.self.view_is, c.in-Of.is, parts_tree, c.in-Sizes.is, narrow, ← c.as_slice.ensures, ← c.in-None.ensures.value 3) refl) in
    rw e (record { value = refl; holds = laws.project-holds _ _ _ })

pub returns-in_ok-element_of-in-Some : goal.returns-in_ok-element_of-in-Some
unfolding project
returns-in_ok-element_of-in-Some c =
    let p = project c.args.self.now c.args.size c.args.position in
    let x = c.in_ok-element_of-in-Some in
    let narrow = lt-ltb c.args.size 65 (omega arith) in
    let is = c.of_node.ensures ∙ view_up x.field-0 x.ensures.fits ∙ ap (lifted 3) x.ensures.value in
    let e = same_type c.of_node.result p (rw (← c.self.view_is, c.in-Of.is, parts_tree, c.in-Sizes.is, narrow, ← c.as_slice.ensures, ← c.in-Some.ensures.value 3) is) in
    rw e (record { value = refl; holds = laws.project-holds _ _ _ })
