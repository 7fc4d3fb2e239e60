use Rattle.std.proofs.Common.{◌≡◌, ◌-◌}
use Rattle.type_bytes.specs.steps.Cuts.{many, skip}
use Rattle.type_bytes.proofs.shapes.skip_numbers.Given as goal

abbrev pub invariant-loop : goal.invariant-loop
invariant-loop l = many (l.count - l.counter) (skip 16) l.rest ≡ many l.count (skip 16) l.fn.bytes
