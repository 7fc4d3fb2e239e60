use Rattle.std.proofs.Common.{◌≡◌, ◌++◌, length}
use Rattle.cons_solve.specs.steps.Positions.{Queued}
use Rattle.cons_solve.proofs.QueueLaws.{Enqueuing}
use Rattle.cons_solve.proofs.queue.Queue.enqueue.Given as goal

abbrev pub invariant-loop-naming : goal.invariant-loop-naming
invariant-loop-naming l = record {
  long : length l.self.flags ≡ length l.members;
  queued : Queued l.self.flags (l.self.soon ++ l.self.later);
  enqueuing : Enqueuing l.except l.woken l.initial.self.flags l.self.flags l.naming-index;
}
