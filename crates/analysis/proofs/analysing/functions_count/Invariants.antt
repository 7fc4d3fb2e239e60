use Rattle.std.proofs.Common.{◌≡◌, ◌+◌, length, map, drop}
use Rattle.core_scope.specs.Checked.{tree_of}
use Rattle.call_graph.specs.Calls.{functions_of}
use Rattle.analysis.proofs.analysing.functions_count.Given as goal

abbrev pub invariant-loop-source : goal.invariant-loop-source
invariant-loop-source l = l.count + length (functions_of (map (λ s. tree_of s.checked) (drop l.source-index l.sources))) ≡ length (functions_of (map (λ s. tree_of s.checked) l.sources))
