use Rattle.std.proofs.Common.{arith}
use Rattle.type_lattice_trees.proofs.Inclusions.{failed}
use Rattle.type_lattice_trees.proofs.LowTrees.{any_is_low, of_is_low}
use Rattle.type_lattice_trees.proofs.low.+low.Goals as goal

pub is_low-returns-in-Any : goal.is_low-returns-in-Any
is_low-returns-in-Any t c = λ h. any_is_low c.args.t.now c.in-Any.is c.args.to

pub is_low-returns-else-is_full : goal.is_low-returns-else-is_full
is_low-returns-else-is_full t c =
    λ h. of_is_low _ _ c.in-Of.is c.args.to (omega (arith, c.if-to-eq0.false)) (c.are_parts_low.ensures h) (λ k f e. failed _ (c.is_full.ensures k f) c.if-is_full.false e)
