use Rattle.std.proofs.Common.{◌≡◌, ◌++◌, take}
use Rattle.std.specs.List.{flat_map}
use Rattle.type_bytes.specs.Spelling.{bytes_of}
use Rattle.table_file.proofs.writing.put_types.Given as goal

abbrev pub invariant-loop-ty : goal.invariant-loop-ty
invariant-loop-ty l = l.out ≡ l.initial.out ++ flat_map bytes_of (take l.ty-index l.types)
