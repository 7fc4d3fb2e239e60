use Rattle.std.proofs.Common.{drop}
use Rattle.core_ast.specs.Tree.{all_patterns}
use Rattle.cons_gen_rows.specs.Patterns.{outer_bindings, outer_rows, outer_span}
use Rattle.cons_gen_rows.specs.Walking.{BindsRest}
use Rattle.cons_gen_rows.proofs.patterns.walk_outer.Given as goal

abbrev pub invariant-loop-position : goal.invariant-loop-position
invariant-loop-position l =
    BindsRest l.fn.made l.made (outer_span (all_patterns (drop l.position l.patterns))) (outer_span (all_patterns l.patterns)) (outer_rows (drop l.position l.slots) l.made.next (all_patterns (drop l.position l.patterns)))
    (outer_rows l.slots l.fn.made.next (all_patterns l.patterns)) (outer_bindings l.made.next (all_patterns (drop l.position l.patterns))) (outer_bindings l.fn.made.next (all_patterns l.patterns))
