use Rattle.std.proofs.Common.{◌≡◌, Some}
use Rattle.cons_gen_rows.specs.Scopes.{slot_of}
use Rattle.module_flow_state.specs.steps.Walking.{walk_scope_of}
use Rattle.module_flow_state.proofs.WalkSteps.{variable_anew}
use Rattle.module_flow_state.proofs.walk.FlowWalk.variable.Goals as goal

pub returns-in-None-get : goal.returns-in-None-get
returns-in-None-get c =
    let at : slot_of c.args.self.now.scope.variables c.args.name.now ≡ Some c.in-Some.slot = cc in
    variable_anew c.value-in-None-get.result (walk_scope_of c.args.self.now) c.args.name.now c.in-Some.slot c.any.result at c.in-None-get.ensures.value c.any.ensures.value c.value-in-None-get.ensures
