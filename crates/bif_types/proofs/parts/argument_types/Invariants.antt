use Rattle.std.proofs.Common.{◌≡◌, map, take}
use Rattle.bif_types.specs.ArgTypes.{type_of}
use Rattle.bif_types.proofs.parts.argument_types.Given as goal

abbrev pub invariant-loop-kind : goal.invariant-loop-kind
invariant-loop-kind l = l.types ≡ map type_of (take l.kind-index l.kind-items)
