use Rattle.std.proofs.Common.{refl, ◌∙◌}
use Rattle.type_lattice_model.specs.Operations.{ops}
use Rattle.type_lattice_trees.proofs.Views.{view_any}
use Rattle.type_lattice.specs.Types.{same_type, any, none, tail}
use Rattle.type_lattice.proofs.TypeLaws.{laws}
use Rattle.type_lattice.proofs.TypeModels.{parts_tree, cell_fits}
use Rattle.type_lattice.proofs.types.Ty.tail.Goals as goal

pub returns-in_default : goal.returns-in_default
unfolding any tail ops
returns-in_default c =
    let e = same_type c.any.result (tail c.args.self.now) (rw (c.any.ensures.value, ← c.self.view_is, view_any _ c.in_default.is 4) refl) in
    rw e (record { value = refl; holds = laws.tail-holds _ })

pub tail_parts-requires : goal.tail_parts-requires
tail_parts-requires c = rw c.in-Some.is at (cell_fits c.in-Of.parts (rw c.in-Of.is at c.self.invariant))

pub returns-in-None : goal.returns-in-None
unfolding none tail ops
returns-in-None c =
    let e = same_type c.none.result (tail c.args.self.now) (rw (c.none.ensures.value, ← c.self.view_is, c.in-Of.is, parts_tree, c.in-None.is) refl) in
    rw e (record { value = refl; holds = laws.tail-holds _ })

pub returns-in_ok-after-in-Some : goal.returns-in_ok-after-in-Some
unfolding tail
returns-in_ok-after-in-Some c =
    let after = c.in_ok-after-in-Some.ensures in
    let is = c.of_node.ensures ∙ c.made.ensures.value 3 after.fits ∙ after.value in
    let e = same_type c.of_node.result (tail c.args.self.now) (rw (← c.self.view_is, c.in-Of.is, parts_tree, c.in-Some.is) is) in
    rw e (record { value = refl; holds = laws.tail-holds _ })
