use Rattle.std.proofs.Common.{map, take}
use Rattle.call_graph.specs.Among.{name_of}
use Rattle.call_graph.specs.steps.Finding.{FindsLast}
use Rattle.call_graph.proofs.among.last_table.Given as goal

abbrev pub invariant-loop-function : goal.invariant-loop-function
invariant-loop-function g l = FindsLast l.table (map name_of (map g.S.AsFunction.stands_for (take l.function-index l.functions)))
