use Rattle.std.proofs.Common.{◌≡◌, ◌∷◌, take}
use Rattle.type_lattice.specs.Types.{any}
use Rattle.module_flow_calls.proofs.calls.beginning.Given as goal

abbrev pub invariant-loop-arg : goal.invariant-loop-arg
invariant-loop-arg l = l.types ≡ any ∷ take l.arg-index l.args
