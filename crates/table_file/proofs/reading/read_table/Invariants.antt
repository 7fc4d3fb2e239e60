use Rattle.std.proofs.Common.{◌≡◌, true}
use Rattle.table_file.specs.Faults.{names_of}
use Rattle.table_file.specs.Lengths.{has_short_types}
use Rattle.table_file.specs.Order.{rises, is_name_before}
use Rattle.table_file.specs.Spelling.{entry_bytes}
use Rattle.table_file.specs.steps.Reads.{SoFar}
use Rattle.table_file.proofs.reading.read_table.Given as goal

abbrev pub invariant-loop : goal.invariant-loop
invariant-loop l = record {
  read : SoFar has_short_types entry_bytes l.initial.rest l.entries l.rest l.counter;
  rise : rises is_name_before (names_of l.entries) ≡ true;
}
