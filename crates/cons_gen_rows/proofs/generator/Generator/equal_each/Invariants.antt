use Rattle.std.proofs.Common.{drop}
use Rattle.cons_gen_rows.specs.Walking.{AddsRest}
use Rattle.cons_gen_rows.specs.Words.{equals}
use Rattle.cons_gen_rows.proofs.generator.Generator.equal_each.Given as goal

abbrev pub invariant-loop-position : goal.invariant-loop-position
invariant-loop-position l = AddsRest l.fn.self l.self 0 0 (equals (drop l.position l.left) (drop l.position l.right)) (equals l.left l.right)
