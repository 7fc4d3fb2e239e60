use Rattle.std.proofs.Common.{◌≡◌, ◌++◌, replicate}
use Rattle.type_lattice.specs.Types.{any}
use Rattle.module_flow_calls.proofs.types.add_any.Given as goal

abbrev pub invariant-loop-at : goal.invariant-loop-at
invariant-loop-at l = l.types ≡ l.initial.types ++ replicate l._at any
