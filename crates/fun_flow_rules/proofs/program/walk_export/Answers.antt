use Rattle.std.proofs.Common.{refl}
use Rattle.std.proofs.lemmas.Result.{on_ok_weaker}
use Rattle.fun_flow_rules.proofs.ModuleWalks.{opens_export, opens_nothing}
use Rattle.fun_flow_rules.proofs.program.walk_export.Goals as goal

pub returns-in-Some : goal.returns-in-Some
returns-in-Some c = on_ok_weaker c.open_parameters.result (λ h. opens_export c.args.walk.now c.open_parameters.new.self c.args.name.now c.in-Some.label c.args.name.now.arity refl c.in-Some.ensures h) c.open_parameters.ensures

pub returns-in-None : goal.returns-in-None
returns-in-None c = opens_nothing c.args.walk.now c.args.name.now c.in-None.ensures
