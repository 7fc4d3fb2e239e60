use Rattle.std.proofs.Common.{◌+◌, length, map, drop, sym, ap, ◌∙◌}
use Rattle.core_ast.specs.declared.syntax.Module.{Module}
use Rattle.core_scope.specs.Checked.{tree_of}
use Rattle.call_graph.specs.Calls.{functions_of}
use Rattle.analysis.proofs.Counted.{count_next}
use Rattle.analysis.proofs.analysing.functions_count.Goals as goal

pub loop-source-preserved : goal.loop-source-preserved
loop-source-preserved c =
    ap (λ n. (c.loop-source.count + n) + length (functions_of (map (λ s. tree_of s.checked) (drop (c.loop-source.source-index + 1) c.args.sources.now))))
    (c.len-defs.ensures ∙ ap (λ (x : Module). length x.defs) c.module.ensures)
    ∙ sym (count_next c.args.sources.now c.loop-source.source-index c.source-item.result c.loop-source.count c.loop-source-test.true c.source-item.is)
    ∙ c.loop-source.invariant
