use Rattle.std.proofs.Common.{◌≡◌, take}
use Rattle.cons_tree.proofs.copies.own_types.Given as goal

abbrev pub invariant-loop-ty : goal.invariant-loop-ty
invariant-loop-ty l = l.copies ≡ take l.ty-index l.types
