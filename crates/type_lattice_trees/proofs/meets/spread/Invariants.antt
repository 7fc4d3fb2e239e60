use Rattle.std.proofs.Common.{◌≡◌, ◌++◌, drop}
use Rattle.type_lattice_model.specs.Tables.{all_hold}
use Rattle.type_lattice_trees.specs.View.{Fits, row_view, tags_view, EachTag}
use Rattle.type_lattice_trees.proofs.meets.spread.Given as goal

abbrev pub invariant-loop-atom : goal.invariant-loop-atom
invariant-loop-atom l = record {
  value : tags_view l.level l.out ++ all_hold (drop l.atom-index l.atoms) (row_view l.level l.rest) ≡ all_hold l.atoms (row_view l.level l.rest);
  each : EachTag (Fits l.level) l.out;
}
