use Rattle.std.proofs.Common.{◌≡◌, ℕ, drop}
use Rattle.type_kinds_sets.specs.Names.{name_cmp}
use Rattle.type_lattice_model.specs.Tables.{find}
use Rattle.type_lattice_trees.specs.View.{tags_view}
use Rattle.type_lattice_trees.proofs.node.find_tag_from.Given as goal

abbrev pub invariant-loop-at : goal.invariant-loop-at
invariant-loop-at l = (d : ℕ) → find name_cmp (tags_view d (drop l.from l.tags)) l.atom ≡ find name_cmp (tags_view d (drop l.at l.tags)) l.atom
