use Rattle.table_file.specs.Spelling.{export_bytes}
use Rattle.table_file.specs.steps.Reads.{SoFar}
use Rattle.table_file.specs.steps.Tests.{is_short_export}
use Rattle.table_file.proofs.reading.lists.read_exports.Given as goal

abbrev pub invariant-loop : goal.invariant-loop
invariant-loop l = SoFar is_short_export export_bytes l.initial.rest l.exports l.rest l.counter
