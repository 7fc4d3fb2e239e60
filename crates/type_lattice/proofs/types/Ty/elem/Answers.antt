use Rattle.std.proofs.Common.{refl, ap, ◌∙◌}
use Rattle.type_lattice_model.specs.Operations.{ops}
use Rattle.type_lattice_model.specs.Cut as levels
use Rattle.type_lattice_trees.specs.View.{view}
use Rattle.type_lattice_trees.proofs.Views.{view_any}
use Rattle.type_lattice.specs.Types.{same_type, any, none, elem}
use Rattle.type_lattice.proofs.TypeLaws.{laws}
use Rattle.type_lattice.proofs.TypeModels.{parts_tree, cell_fits, view_up}
use Rattle.type_lattice.proofs.types.Ty.elem.Goals as goal

pub returns-in_default : goal.returns-in_default
unfolding any elem ops levels.cut
returns-in_default c =
    let e = same_type c.any.result (elem c.args.self.now) (rw (c.any.ensures.value, ← c.self.view_is, view_any _ c.in_default.is 4) refl) in
    rw e (record { value = refl; holds = laws.elem-holds _ })

pub returns-in-None : goal.returns-in-None
unfolding none elem
returns-in-None c =
    let e = same_type c.none.result (elem c.args.self.now) (rw (c.none.ensures.value, ← c.self.view_is, c.in-Of.is, parts_tree, c.in-None.is) refl) in
    rw e (record { value = refl; holds = laws.elem-holds _ })

pub returns-in_ok-copy-in-Some : goal.returns-in_ok-copy-in-Some
unfolding elem
returns-in_ok-copy-in-Some c =
    let fits = rw c.in-Some.is at (cell_fits c.in-Of.parts (rw c.in-Of.is at c.self.invariant)) in
    let is = c.of_node.ensures ∙ ap (view 4) (c.in_ok-copy-in-Some.ensures ∙ c.get.ensures) ∙ view_up c.in-Some.cell.element fits.each in
    let e = same_type c.of_node.result (elem c.args.self.now) (rw (← c.self.view_is, c.in-Of.is, parts_tree, c.in-Some.is) is) in
    rw e (record { value = refl; holds = laws.elem-holds _ })
