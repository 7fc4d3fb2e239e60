use Rattle.std.proofs.Common.{◌≡◌, ◌+◌, ◌*◌, ◌++◌, length, drop}
use Rattle.cons_tree.specs.Constraints.{all_of, constraint, constraints}
use Rattle.cons_tree.specs.Trails.{Trailed}
use Rattle.cons_solve.specs.Environments.{environments, ranks, solution}
use Rattle.cons_solve.specs.steps.Alternatives.{Kept, best_of}
use Rattle.cons_solve.specs.steps.Passes.{unions, merged}
use Rattle.cons_solve.specs.steps.Positions.{Queued}
use Rattle.cons_solve.specs.steps.Plans.{GoodEach, GoodAny, memos}
use Rattle.cons_solve.proofs.MemberLaws.{weight, weights}
use Rattle.cons_solve.proofs.WaitingLaws.{Rest, count_waiting}
use Rattle.cons_solve.proofs.solving.+solving.Given as goal

abbrev pub decreases-solve_plan : goal.decreases-solve_plan
decreases-solve_plan l = weight (constraint l.c.now)

abbrev pub decreases-solve_on : goal.decreases-solve_on
decreases-solve_on l = weight (constraint l.c.now) + 1

abbrev pub decreases-work : goal.decreases-work
decreases-work l = weights (constraints l.members.now) + 1

abbrev pub decreases-join_each : goal.decreases-join_each
decreases-join_each l = weights (constraints l.members.now) + 1

abbrev pub invariant-work-turns : goal.invariant-work-turns
invariant-work-turns l = record {
  same : solution (all_of (constraints l.members)) l.slots.types ≡ solution (all_of (constraints l.members)) l.initial.slots.types;
  trailed : Trailed l.initial.slots l.slots;
  long : length l.queue.flags ≡ length l.members;
  queued : Queued l.queue.flags (l.queue.soon ++ l.queue.later);
  rest : Rest l.queue.flags l.members l.slots.types;
  good : GoodEach (constraints l.members) (memos l.plans) l.slots.types;
}

abbrev pub decreases-work-turns : goal.decreases-work-turns
decreases-work-turns l = (length l.members + 1) * ranks l.slots.types + count_waiting l.queue.flags

abbrev pub invariant-join_each-loop-at : goal.invariant-join_each-loop-at
invariant-join_each-loop-at l = record {
  types : l.slots.types ≡ l.initial.slots.types;
  trail : l.slots.trail ≡ l.initial.slots.trail;
  best : Kept l.best l.slots.types;
  good : GoodAny (constraints l.members) (memos l.plans) l.kept l.slots.types;
  rest : merged environments (best_of l.best l.slots.types) (constraints (drop l.at l.members)) l.slots.types ≡ unions environments (constraints l.members) l.initial.slots.types;
}
