use Rattle.std.proofs.Common.{codes, map, take}
use Rattle.type_kinds.specs.Quoted.{quoted}
use Rattle.type_text.specs.Adds.{Adds}
use Rattle.type_text.proofs.printing.append_members.Given as goal

abbrev pub invariant-loop-atom : goal.invariant-loop-atom
invariant-loop-atom l = Adds (codes " | ") (map quoted (take l.atom-index l.members)) l.fn.some l.some l.fn.out l.out
