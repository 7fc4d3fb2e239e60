use Rattle.std.proofs.Common.{◌≡◌, ◌+◌, ◌*◌, ◌++◌, ◌≤◌, ℕ, length}
use Rattle.type_lattice.specs.Types.{Type4}
use Rattle.cons_tree.specs.Constraints.{all_of, constraints}
use Rattle.cons_tree.specs.Trails.{summed, Falling}
use Rattle.cons_solve.specs.Environments.{ranks, solution}
use Rattle.cons_solve.specs.steps.Positions.{Queued}
use Rattle.cons_solve.proofs.WaitingLaws.{Rest, count_waiting}
use Rattle.cons_solve.proofs.counted.count_work.Given as goal

abbrev pub invariant-turns : goal.invariant-turns
invariant-turns g l = record {
  same : solution (all_of (constraints l.members)) l.slots.types ≡ solution (all_of (constraints l.members)) l.initial.slots.types;
  long : length l.queue.flags ≡ length l.members;
  queued : Queued l.queue.flags (l.queue.soon ++ l.queue.later);
  rest : Rest l.queue.flags l.members l.slots.types;
  cost : (h : Type4 → ℕ) → Falling h → l.steps + summed h l.slots.types ≤ l.initial.steps + summed h l.initial.slots.types;
  since : l.initial.steps ≤ l.steps;
  still : l.steps ≡ l.initial.steps → l.slots.types ≡ l.initial.slots.types;
}

abbrev pub decreases-turns : goal.decreases-turns
decreases-turns g l = (length l.members + 1) * ranks l.slots.types + count_waiting l.queue.flags
