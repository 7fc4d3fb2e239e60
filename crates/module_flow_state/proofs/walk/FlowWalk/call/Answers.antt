use Rattle.std.proofs.Common.{refl}
use Rattle.module_flow_state.specs.World.{strict}
use Rattle.module_flow_state.specs.steps.Walking.{world_of}
use Rattle.module_flow_state.proofs.walk.FlowWalk.call.Goals as goal

pub returns-clause-given : goal.returns-clause-given
returns-clause-given c = c.called.ensures (strict (world_of c.args.context.now)) refl refl
