use Rattle.std.proofs.Common.{◌≡◌, ◌++◌, length}
use Rattle.cons_solve.specs.steps.Positions.{Queued}
use Rattle.cons_solve.proofs.QueueLaws.{Waking}
use Rattle.cons_solve.proofs.queue.Queue.wake.Given as goal

abbrev pub invariant-loop-former : goal.invariant-loop-former
invariant-loop-former l = record {
  long : length l.self.flags ≡ length l.members;
  queued : Queued l.self.flags (l.self.soon ++ l.self.later);
  waking : Waking l.except l.index.namings l.told l.initial.self.flags l.self.flags l.former-index;
}
