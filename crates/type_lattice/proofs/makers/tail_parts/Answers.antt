use Rattle.std.proofs.Common.{Some, refl}
use Rattle.type_lattice_model.proofs.LevelLaws.{level_laws}
use Rattle.type_lattice_model.proofs.MadeLaws.{tail_normal}
use Rattle.type_lattice_trees.specs.View.{cell_view}
use Rattle.type_lattice.proofs.makers.tail_parts.Goals as goal

pub returns-clause-fits : goal.returns-clause-fits
returns-clause-fits c = rw (c.tail_plain.ensures, c.in_ok-share.ensures) (record {
  normal = rw (c.tail_tuples.ensures.value 3) (tail_normal (level_laws 3) (cell_view 3 (Some c.args.cell.now)) c.requires.normal);
  each = (c.requires.each, c.tail_tuples.ensures.each 3);
})

pub returns-clause-value : goal.returns-clause-value
returns-clause-value c = rw (c.tail_plain.ensures, c.in_ok-share.ensures, c.tail_tuples.ensures.value 3) refl
