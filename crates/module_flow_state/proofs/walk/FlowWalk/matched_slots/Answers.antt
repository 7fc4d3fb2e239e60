use Rattle.module_flow_state.proofs.WalkSteps.{name_of_variable, names_of_others, names_of_values, slots_as}
use Rattle.module_flow_state.proofs.walk.FlowWalk.matched_slots.Goals as goal

pub returns-in-Values : goal.returns-in-Values
returns-in-Values c = slots_as c.item_slots.result c.args.self.now.scope.variables c.len-next.result _ _ _ c.len-next.ensures
    (names_of_values c.args.argument.now c.in-Values.items c.as_slice.result.now c.args.count c.in-Values.is c.as_slice.ensures) c.item_slots.ensures

pub returns-in-Var : goal.returns-in-Var
returns-in-Var c = slots_as c.variable_slot.result c.args.self.now.scope.variables c.len-next.result _ _ _ c.len-next.ensures (name_of_variable c.args.argument.now c.in-Var.name c.args.count c.in-Var.is) c.variable_slot.ensures

pub returns-in_default : goal.returns-in_default
returns-in_default c = slots_as c.own_slots.result c.args.self.now.scope.variables c.len-next.result _ _ _ c.len-next.ensures
    (names_of_others c.args.argument.now c.args.count c.in_default.not-Var c.in_default.not-Values) c.own_slots.ensures
