use Rattle.std.proofs.Common.{refl}
use Rattle.type_lattice_trees.specs.declared.node.Node.TheVariants as v
use Rattle.type_lattice_trees.proofs.Views.{view_any, any_fits}
use Rattle.type_lattice.proofs.TypeModels.{any_tree, parts_tree, join_any, cell_fits}
use Rattle.type_lattice.proofs.makers.element_with.Goals as goal

pub returns-in_default : goal.returns-in_default
returns-in_default c = record { fits = any_fits v.Any refl 3; value = rw (c.in_default.is, any_tree, view_any v.Any refl 3, join_any _ c.requires.head) refl }

pub returns-in-None-clause-value : goal.returns-in-None-clause-value
returns-in-None-clause-value c = rw (c.in-Of.is, parts_tree, c.in-None.is) refl

pub join-requires-clause-b : goal.join-requires-clause-b
join-requires-clause-b c = rw c.get.ensures (rw c.in-Some.is at (cell_fits c.in-Of.parts (rw c.in-Of.is at c.requires.tail))).each

pub returns-in-Some-clause-value : goal.returns-in-Some-clause-value
returns-in-Some-clause-value c = rw (c.in-Of.is, parts_tree, c.in-Some.is, ← c.get.ensures) c.join.ensures.value
