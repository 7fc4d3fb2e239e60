use Rattle.std.proofs.Common.{◌≡◌, ◌++◌, ◌∷◌, length, take}
use Rattle.std.specs.List.{flat_map}
use Rattle.type_bytes.specs.Spelling.{int_bytes}
use Rattle.type_bytes.proofs.writing.append_numbers.Given as goal

abbrev pub invariant-loop-n : goal.invariant-loop-n
invariant-loop-n l = l.out ≡ l.fn.out ++ (length l.numbers ∷ flat_map int_bytes (take l.n-index l.numbers))
