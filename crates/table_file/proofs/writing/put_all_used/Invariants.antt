use Rattle.std.proofs.Common.{◌≡◌, ◌++◌, take}
use Rattle.std.specs.List.{flat_map}
use Rattle.table_file.specs.Spelling.{used_bytes}
use Rattle.table_file.proofs.writing.put_all_used.Given as goal

abbrev pub invariant-loop-one : goal.invariant-loop-one
invariant-loop-one l = l.out ≡ l.initial.out ++ flat_map used_bytes (take l.one-index l.used)
