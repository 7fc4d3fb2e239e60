use Rattle.std.proofs.Common.{drop}
use Rattle.cons_gen_rows.specs.Walking.{AddsRest}
use Rattle.cons_gen_rows.specs.Words.{no_values}
use Rattle.cons_gen_rows.proofs.generator.Generator.no_values.Given as goal

abbrev pub invariant-loop-slot : goal.invariant-loop-slot
invariant-loop-slot l = AddsRest l.fn.self l.self 0 0 (no_values (drop l.slot-index l.slots)) (no_values l.slots)
