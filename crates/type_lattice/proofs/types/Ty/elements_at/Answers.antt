use Rattle.std.proofs.Common.{refl, ◌∙◌}
use Rattle.type_lattice_model.specs.Operations.{ops}
use Rattle.type_lattice_trees.proofs.Views.{view_any}
use Rattle.type_lattice.specs.Types.{same_type, any}
use Rattle.type_lattice.specs.Elements.{elements_at}
use Rattle.type_lattice.proofs.TypeLaws.{laws}
use Rattle.type_lattice.proofs.TypeModels.{parts_tree, sizes_there}
use Rattle.type_lattice.proofs.types.Ty.elements_at.Goals as goal

pub returns-in_default : goal.returns-in_default
unfolding any elements_at ops
returns-in_default c =
    let t = elements_at c.args.self.now c.args.positions.now in
    let e = same_type c.any.result t (rw (c.any.ensures.value, ← c.node.ensures.value, view_any _ c.in_default.is 4) refl) in
    rw e (record { value = refl; holds = laws.elements-hold _ _ })

pub returns-in_default-tuples : goal.returns-in_default-tuples
unfolding any elements_at
returns-in_default-tuples c =
    let t = elements_at c.args.self.now c.args.positions.now in
    let r = c.any-in_default-tuples in
    let e = same_type r.result t (rw (r.ensures.value, ← c.node.ensures.value, c.in-Of.is, parts_tree, c.in_default-tuples.is) refl) in
    rw e (record { value = refl; holds = laws.elements-hold _ _ })

pub with_sizes-requires : goal.with_sizes-requires
with_sizes-requires c =
    rw c.as_slice.ensures (sizes_there c.in-Of.parts c.in-Sizes.sizes (rw c.in-Of.is at c.node.ensures.fits) c.in-Sizes.is)

pub returns : goal.returns
unfolding elements_at
returns c =
    let t = elements_at c.args.self.now c.args.positions.now in
    let is = c.of_node.ensures ∙ c.in_ok-with_sizes.ensures.value in
    let e = same_type c.of_node.result t (rw (← c.node.ensures.value, c.in-Of.is, parts_tree, c.in-Sizes.is, ← c.as_slice.ensures) is) in
    rw e (record { value = refl; holds = laws.elements-hold _ _ })
