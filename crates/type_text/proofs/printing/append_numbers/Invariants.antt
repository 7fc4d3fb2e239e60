use Rattle.std.proofs.Common.{codes, map, take}
use Rattle.std.specs.Fmt.{signed_decimal}
use Rattle.type_text.specs.Adds.{Adds}
use Rattle.type_text.proofs.printing.append_numbers.Given as goal

abbrev pub invariant-loop-n : goal.invariant-loop-n
invariant-loop-n l = Adds (codes " | ") (map signed_decimal (take l.n-index l.numbers)) l.fn.some l.some l.fn.out l.out
