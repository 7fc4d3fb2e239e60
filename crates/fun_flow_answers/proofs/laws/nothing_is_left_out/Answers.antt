use Rattle.fun_flow_answers.proofs.LeftOut.{left_out}
use Rattle.fun_flow_answers.proofs.laws.nothing_is_left_out.Goals as goal

pub returns : goal.returns
returns c = left_out c.applications_are_in_order.ensures.once
