use Rattle.type_bytes.specs.ShortNames.{has_short_names}
use Rattle.type_bytes.specs.Spelling.{bytes_of}
use Rattle.table_file.specs.steps.Reads.{SoFar}
use Rattle.table_file.proofs.reading.functions.read_types.Given as goal

abbrev pub invariant-loop : goal.invariant-loop
invariant-loop l = SoFar has_short_names bytes_of l.initial.rest l.types l.rest l.counter
