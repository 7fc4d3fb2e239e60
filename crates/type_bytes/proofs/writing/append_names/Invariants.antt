use Rattle.std.proofs.Common.{◌≡◌, ◌++◌, ◌∷◌, length, take}
use Rattle.std.specs.List.{flat_map}
use Rattle.type_bytes.specs.Spelling.{name_bytes}
use Rattle.type_bytes.proofs.writing.append_names.Given as goal

abbrev pub invariant-loop-name : goal.invariant-loop-name
invariant-loop-name l = l.out ≡ l.fn.out ++ (length l.names ∷ flat_map name_bytes (take l.name-index l.names))
