use Rattle.std.proofs.Common.{subst}
use Rattle.cons_tree.specs.Constraints.{any_of, constraints}
use Rattle.cons_solve.specs.steps.Plans.{Good}
use Rattle.cons_solve.proofs.MemoLaws.{memo_any, blank_any}
use Rattle.cons_solve.proofs.plan.choice_plan.Goals as goal

pub returns-in-Any : goal.returns-in-Any
returns-in-Any c = λ xs g. subst (λ m. Good (any_of (constraints c.args.members.now)) m xs) (memo_any c.args.plan c.in-Any.plans c.in-Any.kept c.in-Any.is) g

pub returns-in_ok-kept-in_default : goal.returns-in_ok-kept-in_default
returns-in_ok-kept-in_default c = λ xs g. blank_any c.args.members.now c.in_ok-plans-in_default.plans c.in_ok-kept-in_default.kept xs c.in_ok-plans-in_default.ensures c.in_ok-kept-in_default.ensures.long
    c.in_ok-kept-in_default.ensures.empty
