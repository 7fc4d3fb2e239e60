use Rattle.std.proofs.Common.{◌≡◌, take}
use Rattle.cons_tree.proofs.copies.share_types.Given as goal

abbrev pub invariant-loop-ty : goal.invariant-loop-ty
invariant-loop-ty l = l.shared ≡ take l.ty-index l.types
