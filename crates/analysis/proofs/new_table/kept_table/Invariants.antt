use Rattle.std.proofs.Common.{◌≡◌, ◌++◌, drop}
use Rattle.analysis.specs.steps.Keyed.{kept_among}
use Rattle.analysis.proofs.new_table.kept_table.Given as goal

abbrev pub invariant-loop-entry : goal.invariant-loop-entry
invariant-loop-entry l = l.entries ++ kept_among l.changed (drop l.entry-index l.entry-items) ≡ kept_among l.changed l.entry-items
