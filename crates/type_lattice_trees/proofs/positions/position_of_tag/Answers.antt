use Rattle.std.proofs.Common.{◌∙◌}
use Rattle.type_kinds_sets.specs.Names.{name_cmp}
use Rattle.type_kinds_sets.proofs.NameLaws.{name_same}
use Rattle.type_lattice_trees.specs.View.{tag_entry}
use Rattle.type_lattice_trees.proofs.PositionLaws.{stands-at, compared}
use Rattle.type_lattice_trees.proofs.positions.position_of_tag.Goals as goal

pub returns-in-Equal-clause-found : goal.returns-in-Equal-clause-found
returns-in-Equal-clause-found c =
    let same = compared _ _ _ _ _ _ (c.bytes.ensures ∙ c.get.ensures) (c.bytes-in-loop-at.ensures ∙ c.get-in-loop-at.ensures) c.cmp.ensures c.in-Equal.is in
    λ d. stands-at name_cmp (tag_entry d) _ _ _ _ c.loop-at-test.true c.index-tags-at.is (name_same _ _ same) same c.loop-at.invariant
