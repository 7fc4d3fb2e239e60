use Rattle.std.proofs.Common.{ap, arith}
use Rattle.core_scope.specs.Checked.{tree_of}
use Rattle.analysis_summaries.proofs.Members.{module_made, modules_made}
use Rattle.analysis_summaries.proofs.functions.add_modules.Goals as goal

pub loop-source-preserved : goal.loop-source-preserved
loop-source-preserved g c =
    module_made (λ s. tree_of (g.S.AsChecked.stands_for s)) c.args.mods.now c.loop-source.source-index c.source-item.result c.loop-source.members
    c.add_members.new.members (tree_of c.checked.result.now) c.loop-source-test.true c.source-item.is
    (ap tree_of c.checked.ensures) c.in_ok-add_members.ensures _ c.loop-source.invariant

pub returns : goal.returns
returns g c =
    modules_made (λ s. tree_of (g.S.AsChecked.stands_for s)) c.args.mods.now c.loop-source.source-index c.loop-source.members _
    (let t = c.loop-source-test.false in omega arith) c.loop-source.invariant
