use Rattle.fun_flow_answers.proofs.Within.{calls_within}
use Rattle.fun_flow_answers.proofs.laws.positions_are_within.Goals as goal

pub returns : goal.returns
returns c = calls_within
