use Rattle.std.proofs.Common.{◌≡◌, ◌-◌}
use Rattle.type_bytes.specs.steps.Cuts.{many, name_cut}
use Rattle.type_bytes.proofs.shapes.skip_names.Given as goal

abbrev pub invariant-loop : goal.invariant-loop
invariant-loop l = many (l.count - l.counter) name_cut l.rest ≡ many l.count name_cut l.fn.bytes
