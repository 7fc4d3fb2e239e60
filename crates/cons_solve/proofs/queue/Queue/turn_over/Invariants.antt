use Rattle.std.proofs.Common.{◌≡◌, ◌++◌, length}
use Rattle.cons_solve.specs.steps.Positions.{Queued}
use Rattle.cons_solve.proofs.queue.Queue.turn_over.Given as goal

abbrev pub invariant-loop-member : goal.invariant-loop-member
invariant-loop-member l = record {
  flags : l.self.flags ≡ l.initial.self.flags;
  queued : Queued l.self.flags (l.self.soon ++ l.self.later);
}

abbrev pub decreases-loop-member : goal.decreases-loop-member
decreases-loop-member l = length l.self.later
