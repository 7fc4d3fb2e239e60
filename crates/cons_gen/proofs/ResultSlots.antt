-- The results of an expression are among its slots.
use Rattle.std.proofs.Common.{◌≤◌, arith}
use Rattle.core_ast.specs.Model as m
use Rattle.core_scope.specs.declared.ask.Ask.{Ask}
use Rattle.cons_gen_rows.specs.Counts.{result_count}
use Rattle.cons_gen.specs.Spans.{span}

pub results_within : (k : Ask) (t : m.Tree) → result_count k t ≤ span k t
results_within k (m.variable i x) = omega arith
results_within k (m.local i g) = omega arith
results_within k (m.external i x g) = omega arith
results_within k (m.literal i l) = omega arith
results_within k (m.function i xs t) = omega arith
results_within k (m.listed i ts t) = omega arith
results_within k (m.tuple i ts) = omega arith
results_within k (m.new_map i ps) = omega arith
results_within k (m.updated_map i ps t) = omega arith
results_within k (m.binary i ss) = omega arith
results_within k (m.values i ts) = omega arith
results_within k (m.chain i ss t) = omega arith
results_within k (m.case i t cs) = omega arith
results_within k (m.letrec i ds t) = omega arith
results_within k (m.apply i t ts) = omega arith
results_within k (m.call i t u ts) = omega arith
results_within k (m.primop i x ts) = omega arith
results_within k (m.try i t xs u ys w) = omega arith
results_within k (m.receive i cs t u) = omega arith
results_within k (m.catch i t) = omega arith
