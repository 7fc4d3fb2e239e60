use Rattle.std.proofs.Common.{◌≡◌, ◌-◌}
use Rattle.type_bytes.specs.steps.Reading.{many, int_at}
use Rattle.type_bytes.proofs.Loops.{behind}
use Rattle.type_bytes.proofs.leaves.list_numbers.Given as goal

abbrev pub invariant-loop : goal.invariant-loop
invariant-loop l = behind l.ints (many (l.count - l.counter) int_at l.rest) ≡ many l.count int_at l.fn.bytes
