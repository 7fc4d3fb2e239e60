use Rattle.std.proofs.Common.{◌≡◌, ◌++◌, ℕ, drop}
use Rattle.type_lattice_model.specs.Tables.{keys}
use Rattle.type_lattice_trees.specs.View.{tags_view}
use Rattle.type_lattice_trees.proofs.joins.tag_atoms.Given as goal

-- the atoms so far, and those to come, are all
abbrev pub invariant-loop-tag : goal.invariant-loop-tag
invariant-loop-tag l = (d : ℕ) → l.atoms ++ keys (tags_view d (drop l.tag-index l.tags)) ≡ keys (tags_view d l.tags)
