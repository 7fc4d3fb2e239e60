use Rattle.std.proofs.Common.{◌≡◌, ◌-◌}
use Rattle.type_bytes.specs.steps.Reading.{many, name_at}
use Rattle.type_bytes.proofs.Loops.{behind}
use Rattle.type_bytes.proofs.leaves.list_names.Given as goal

abbrev pub invariant-loop : goal.invariant-loop
invariant-loop l = behind l.atoms (many (l.count - l.counter) name_at l.rest) ≡ many l.count name_at l.fn.bytes
