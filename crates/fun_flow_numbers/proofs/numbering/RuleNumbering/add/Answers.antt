use Rattle.std.proofs.Common.{◌∷◌, ◌++◌, [], sym, subst}
use Rattle.std.proofs.lemmas.Result.{on_ok_weaker}
use Rattle.fun_flow_numbers.specs.steps.Numbering.{IsNumbering}
use Rattle.fun_flow_numbers.proofs.numbering.RuleNumbering.add.Goals as goal

pub returns-in-Holds : goal.returns-in-Holds
returns-in-Holds c =
    on_ok_weaker c.add_start.result (λ added rules before. subst (λ r. IsNumbering c.args.table.now (rules ++ r ∷ []) c.add_start.new.self) (sym c.in-Holds.is) (added rules before)) c.add_start.ensures

pub returns-in-Flows : goal.returns-in-Flows
returns-in-Flows c =
    on_ok_weaker c.add_flow.result (λ added rules before. subst (λ r. IsNumbering c.args.table.now (rules ++ r ∷ []) c.add_flow.new.self) (sym c.in-Flows.is) (added c.args.table.now rules before)) c.add_flow.ensures

pub returns-in-Applies : goal.returns-in-Applies
returns-in-Applies c =
    on_ok_weaker c.add_application.result (λ added rules before. subst (λ r. IsNumbering c.args.table.now (rules ++ r ∷ []) c.add_application.new.self) (sym c.in-Applies.is) (added c.args.table.now rules before))
    c.add_application.ensures
