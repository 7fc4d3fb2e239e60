use Rattle.std.proofs.Common.{ap, ◌∙◌, arith}
use Rattle.core_scope.specs.Checked.{module_of}
use Rattle.cons_tree.specs.Callees.{found}
use Rattle.analysis_summaries.proofs.Closing.{source_closed, all_closed}
use Rattle.analysis_summaries.proofs.known.close_modules.Goals as goal

pub loop-source-preserved : goal.loop-source-preserved
loop-source-preserved g c =
    source_closed (λ s. (module_of (g.S.AsChecked.stands_for s)).name) (found c.args.known.now) (found c.loop-source.known) (found c.close.new.self) c.args.mods.now
    c.loop-source.source-index c.source-item.result c.module.result.now.name c.loop-source-test.true c.source-item.is
    (ap (λ x. x.name) (c.module.ensures ∙ ap module_of c.checked.ensures)) c.in_ok-close.ensures.closed c.in_ok-close.ensures.others c.loop-source.invariant

pub returns : goal.returns
returns g c =
    all_closed (λ s. (module_of (g.S.AsChecked.stands_for s)).name) (found c.args.known.now) (found c.loop-source.known) c.args.mods.now c.loop-source.source-index
    (let t = c.loop-source-test.false in omega arith) c.loop-source.invariant
