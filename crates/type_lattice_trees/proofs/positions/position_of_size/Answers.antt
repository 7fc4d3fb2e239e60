use Rattle.std.proofs.Common.{sym, ◌∙◌}
use Rattle.std.specs.Ordering.{nat_cmp}
use Rattle.std.specs.FinSet.{nat_cmp-IsAntisymmetric}
use Rattle.type_lattice_trees.specs.View.{size_entry}
use Rattle.type_lattice_trees.proofs.PositionLaws.{goes-last, stands-at}
use Rattle.type_lattice_trees.proofs.positions.position_of_size.Goals as goal

pub returns-in-Equal-clause-found : goal.returns-in-Equal-clause-found
returns-in-Equal-clause-found c =
    let same = sym c.cmp.ensures ∙ c.in-Equal.is in
    λ d. stands-at nat_cmp (size_entry d) _ _ _ _ c.loop-at-test.true c.index-sizes-at.is (nat_cmp-IsAntisymmetric _ _ same) same c.loop-at.invariant

pub returns-clause-missing : goal.returns-clause-missing
returns-clause-missing c = λ d. goes-last nat_cmp (size_entry d) _ _ _ c.loop-at.auto.at-end c.loop-at-test.false c.loop-at.invariant
