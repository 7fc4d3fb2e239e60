use Rattle.module_flow_state.proofs.WalkSteps.{slot_of_other, slot_of_variable}
use Rattle.module_flow_state.proofs.walk.FlowWalk.matched_slot.Goals as goal

pub returns-in-Var : goal.returns-in-Var
returns-in-Var c = slot_of_variable c.args.item.now c.args.self.now.scope.variables c.args.own c.slot_or.result c.in-Var.name c.in-Var.is c.slot_or.ensures

pub returns-in_default : goal.returns-in_default
returns-in_default c = slot_of_other c.args.item.now c.args.self.now.scope.variables c.args.own c.in_default.not-Var
