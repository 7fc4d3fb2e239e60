use Rattle.cons_solve.proofs.QueueLaws.{queued_turned}
use Rattle.cons_solve.proofs.queue.Queue.turn_over.Goals as goal

pub loop-member-preserved : goal.loop-member-preserved
loop-member-preserved c = record {
  flags = c.loop-member.invariant.flags;
  queued = queued_turned c.loop-member.self.flags c.loop-member.self.soon c.add.new.self c.loop-member.self.later c.pop.new.self c.in-Some.member c.in-Some.ensures c.in_ok-add.ensures.ok c.loop-member.invariant.queued;
}
