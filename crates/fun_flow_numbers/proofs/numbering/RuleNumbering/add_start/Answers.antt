use Rattle.std.proofs.lemmas.Result.{on_ok_weaker}
use Rattle.fun_flow_numbers.proofs.numbering.RuleNumbering.add_start.Goals as goal

pub returns : goal.returns
returns c =
    on_ok_weaker c.start.result (λ holds rules before. holds c.args.table.now rules c.args.item.now c.in_ok-item.ensures.number (c.in_ok-item.ensures.kept rules before)) c.start.ensures
