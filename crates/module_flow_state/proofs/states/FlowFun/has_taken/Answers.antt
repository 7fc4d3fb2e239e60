use Rattle.module_flow_state.proofs.TakenBefore.{absorbs_returned}
use Rattle.module_flow_state.proofs.states.FlowFun.has_taken.Goals as goal

pub returns-in-Returns : goal.returns-in-Returns
returns-in-Returns c = λ told.
    absorbs_returned c.type_facts.ensures c.args.self.now c.args.contribution.now c.in-Returns.field-0 c.in-Returns.ty c.in-Returns.is (c.leq.ensures.below.0 told)
