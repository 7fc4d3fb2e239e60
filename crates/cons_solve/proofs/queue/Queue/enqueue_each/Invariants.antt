use Rattle.std.proofs.Common.{◌≡◌, ◌++◌, length}
use Rattle.cons_solve.specs.steps.Positions.{Queued}
use Rattle.cons_solve.proofs.QueueLaws.{LastOf}
use Rattle.cons_solve.proofs.queue.Queue.enqueue_each.Given as goal

abbrev pub invariant-loop-placed : goal.invariant-loop-placed
invariant-loop-placed l = record {
  long : length l.self.flags ≡ length l.members;
  queued : Queued l.self.flags (l.self.soon ++ l.self.later);
  last : LastOf l.self.flags l.count l.placed;
}
