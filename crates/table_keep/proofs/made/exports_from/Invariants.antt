use Rattle.std.proofs.Common.{◌≡◌, true}
use Rattle.std.specs.List.{list_all}
use Rattle.cons_tree.specs.Callees.{found}
use Rattle.table_file.specs.Rules.{is_export}
use Rattle.table_keep.specs.Made.{AreSummarized}
use Rattle.table_keep.proofs.made.exports_from.Given as goal

abbrev pub invariant-loop-name : goal.invariant-loop-name
invariant-loop-name l = record {
  summarized : AreSummarized (found l.known) l.module.name l.yielded l.exports;
  fit : list_all is_export l.exports ≡ true;
}
