use Rattle.std.proofs.Common.{sym, ap, ◌∙◌}
use Rattle.type_kinds_sets.specs.Names.{members_of}
use Rattle.type_lattice_trees.proofs.Nodes.{of_only}
use Rattle.type_lattice_trees.proofs.node.only_atoms.Goals as goal

pub returns-then-is_only_atoms : goal.returns-then-is_only_atoms
returns-then-is_only_atoms c = λ d h. c.members.ensures.value ∙ ap (λ p. members_of p.plain.atoms) c.parts.view_is ∙ of_only _ _ c.in-Of.is (λ n. sym (c.is_only_atoms.ensures n) ∙ c.if-is_only_atoms.true) d h
