use Rattle.std.proofs.Common.{◌∙◌, ap, sym}
use Rattle.std.proofs.lemmas.Result.{on_ok_weaker}
use Rattle.fun_flow_rules.specs.steps.Walking.{with_variables}
use Rattle.fun_flow_rules.proofs.Rounds.{bind_nothing, bind_one}
use Rattle.fun_flow_rules.proofs.walk.RuleWalk.bind.Goals as goal

pub returns-then-is_text : goal.returns-then-is_text
returns-then-is_text c = bind_nothing c.args.self.now c.args.name.now c.args.place (sym c.is_text.ensures ∙ c.if-is_text.true)

pub returns : goal.returns
returns c = on_ok_weaker c.push.result (λ e. bind_one c.args.self.now _ c.args.name.now c.args.place (sym c.is_text.ensures ∙ c.if-is_text.false) (ap (with_variables c.args.self.now) e)) c.push.ensures.bound
