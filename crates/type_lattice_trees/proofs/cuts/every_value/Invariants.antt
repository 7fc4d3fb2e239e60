use Rattle.std.proofs.Common.{◌≡◌, replicate}
use Rattle.type_lattice_trees.specs.declared.node.Node.TheVariants.{Any}
use Rattle.type_lattice_trees.proofs.cuts.every_value.Given as goal

-- as many so far as there were turns
abbrev pub invariant-loop : goal.invariant-loop
invariant-loop l = l.out ≡ replicate l.counter Any
