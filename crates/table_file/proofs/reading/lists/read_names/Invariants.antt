use Rattle.table_file.specs.Spelling.{text_bytes}
use Rattle.table_file.specs.steps.Reads.{anything, SoFar}
use Rattle.table_file.proofs.reading.lists.read_names.Given as goal

abbrev pub invariant-loop : goal.invariant-loop
invariant-loop l = SoFar anything text_bytes l.initial.rest l.names l.rest l.counter
