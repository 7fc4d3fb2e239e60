use Rattle.fun_flow_answers.proofs.OneList.{one_list}
use Rattle.fun_flow_answers.proofs.laws.one_list.Goals as goal

pub returns : goal.returns
returns c = one_list c.applications_are_in_order.ensures.once
