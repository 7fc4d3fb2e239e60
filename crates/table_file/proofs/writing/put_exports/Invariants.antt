use Rattle.std.proofs.Common.{◌≡◌, ◌++◌, take}
use Rattle.std.specs.List.{flat_map}
use Rattle.table_file.specs.Spelling.{export_bytes}
use Rattle.table_file.proofs.writing.put_exports.Given as goal

abbrev pub invariant-loop-export : goal.invariant-loop-export
invariant-loop-export l = l.out ≡ l.initial.out ++ flat_map export_bytes (take l.export-index l.exports)
