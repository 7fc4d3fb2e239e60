use Rattle.std.proofs.Common.{◌≡◌, ◌++◌, length}
use Rattle.cons_solve.specs.steps.Positions.{Queued}
use Rattle.cons_solve.proofs.queue.Queue.enqueue_lists.Given as goal

abbrev pub invariant-loop-at : goal.invariant-loop-at
invariant-loop-at l = record {
  long : length l.self.flags ≡ length l.members;
  queued : Queued l.self.flags (l.self.soon ++ l.self.later);
}
