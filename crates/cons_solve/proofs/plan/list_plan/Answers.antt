use Rattle.std.proofs.Common.{subst}
use Rattle.cons_tree.specs.Constraints.{all_of, constraints}
use Rattle.cons_solve.specs.steps.Plans.{Good}
use Rattle.cons_solve.proofs.MemoLaws.{memo_all, blank_each, is_index}
use Rattle.cons_solve.proofs.plan.list_plan.Goals as goal

pub returns-in-All : goal.returns-in-All
returns-in-All c = λ xs g. subst (λ m. Good (all_of (constraints c.args.members.now)) m xs) (memo_all c.args.plan c.in-All.plans c.in-All.index c.in-All.is) g

pub returns-in_ok-index-in_default : goal.returns-in_ok-index-in_default
returns-in_ok-index-in_default c = λ xs g. (
  is_index c.args.members.now c.in_ok-index-in_default.index.namings c.in_ok-index-in_default.ensures,
  blank_each c.args.members.now c.in_ok-plans-in_default.plans xs c.in_ok-plans-in_default.ensures,
)
