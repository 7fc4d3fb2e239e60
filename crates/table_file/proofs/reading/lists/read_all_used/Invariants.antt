use Rattle.table_file.specs.Spelling.{used_bytes}
use Rattle.table_file.specs.steps.Reads.{SoFar}
use Rattle.table_file.specs.steps.Tests.{has_short_callee}
use Rattle.table_file.proofs.reading.lists.read_all_used.Given as goal

abbrev pub invariant-loop : goal.invariant-loop
invariant-loop l = SoFar has_short_callee used_bytes l.initial.rest l.used l.rest l.counter
