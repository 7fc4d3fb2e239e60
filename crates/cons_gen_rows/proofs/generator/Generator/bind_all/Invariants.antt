use Rattle.std.proofs.Common.{[], drop}
use Rattle.cons_gen_rows.specs.Walking.{BindsRest, bindings_at}
use Rattle.cons_gen_rows.proofs.generator.Generator.bind_all.Given as goal

abbrev pub invariant-loop-position : goal.invariant-loop-position
invariant-loop-position l = BindsRest l.fn.self l.self 0 0 [] [] (bindings_at (drop l.position l.vars) (drop l.position l.slots)) (bindings_at l.vars l.slots)
