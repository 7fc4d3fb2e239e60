use Rattle.std.proofs.Common.{refl}
use Rattle.std.specs.Fmt.{digits}
use Rattle.fun_flow_answers.proofs.WorkedList.{worked_list}
use Rattle.fun_flow_answers.proofs.laws.worked_list.Goals as goal

pub returns-clause-list : goal.returns-clause-list
returns-clause-list c = worked_list c.worked_modules.ensures.no_other

pub returns-clause-lines : goal.returns-clause-lines
unfolding digits
returns-clause-lines c = refl

pub returns-clause-more_lines : goal.returns-clause-more_lines
unfolding digits
returns-clause-more_lines c = refl
