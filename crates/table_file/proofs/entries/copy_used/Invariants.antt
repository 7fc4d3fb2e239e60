use Rattle.std.proofs.Common.{◌≡◌, take}
use Rattle.table_file.proofs.entries.copy_used.Given as goal

abbrev pub invariant-loop-one : goal.invariant-loop-one
invariant-loop-one l = l.copies ≡ take l.one-index l.used
