use Rattle.std.proofs.Common.{arith}
use Rattle.fun_flow_rules.proofs.ModuleWalks.{exports_end, exports_round}
use Rattle.fun_flow_rules.proofs.Steps.{going_begins}
use Rattle.fun_flow_rules.proofs.program.walk_exports.Goals as goal

pub loop-name-init : goal.loop-name-init
loop-name-init c = going_begins c.args.walk.now _

pub loop-name-preserved : goal.loop-name-preserved
loop-name-preserved c = exports_round c.args.walk.now c.loop-name.walk c.walk_export.new.walk c.args.names.now c.loop-name.name-index c.name-item.result _ c.loop-name-test.true c.name-item.is c.in_ok-walk_export.ensures
    c.loop-name.invariant

pub returns : goal.returns
returns c = exports_end c.args.walk.now c.loop-name.walk c.args.names.now c.loop-name.name-index _ (let t = c.loop-name-test.false in omega arith) c.loop-name.invariant
