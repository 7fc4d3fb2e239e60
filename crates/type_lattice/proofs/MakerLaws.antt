-- What the makers of types make.
use Rattle.std.proofs.Common.{◌≡◌, ℕ, List, length, sym, ap, ◌∙◌}
use Rattle.std.proofs.lemmas.List.{length-map}
use Rattle.type_lattice_model.specs.Operations.{ops, elements}
use Rattle.type_lattice_model.proofs.LevelLaws.{level_laws}
use Rattle.type_lattice_model.proofs.BodyLaws.{elements_normal}
use Rattle.type_lattice_trees.specs.declared.node.Node.{Node}
use Rattle.type_lattice_trees.specs.declared.node.BodyOf.{BodyOf}
use Rattle.type_lattice_trees.specs.View.{view, row_view, body_view, BodyFits}

-- a row of the types of a body's elements has a type at each position
pub row_length : (d n : ℕ) (b : BodyOf Node) (ns : List Node) → BodyFits d n b → row_view d ns ≡ elements (ops d) (body_view d b) → length ns ≡ n
row_length d n b ns k e = sym (length-map ns (view d)) ∙ ap length e ∙ (elements_normal (level_laws d) n (body_view d b) k.normal).0
