use Rattle.std.proofs.Common.{◌≡◌, map, drop}
use Rattle.type_lattice_model.specs.Operations.{ops, has_none}
use Rattle.type_lattice.proofs.makers.any_none.Given as goal

abbrev pub invariant-loop-t : goal.invariant-loop-t
invariant-loop-t l = has_none (ops 4) (map (λ t. t.ty) (drop l.t-index l.types)) ≡ has_none (ops 4) (map (λ t. t.ty) l.types)
