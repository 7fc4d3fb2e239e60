use Rattle.std.proofs.Common.{map, subst}
use Rattle.std.proofs.lemmas.Result.{IfOk-weaker}
use Rattle.cons_solve.specs.steps.Positions.{here, Enqueued}
use Rattle.cons_solve.proofs.IndexLaws.{here_is}
use Rattle.cons_solve.proofs.queue.Queue.enqueue_at.Goals as goal

pub returns-clause-enqueued : goal.returns-clause-enqueued
returns-clause-enqueued c =
    let except = c.args.except in
    let old = c.args.self.now.flags in
    let new = c.enqueue.new.self.flags in
    IfOk-weaker c.enqueue.result (λ _. Enqueued except (map (λ n. n.member) c.at.result.now) old new) (λ _. Enqueued except (here c.args.index.now.namings c.args.slot) old new)
    (λ _ r. subst (λ l. Enqueued except l old new) (here_is c.at.result.now c.args.index.now.namings c.args.slot c.at.ensures) r) c.enqueue.ensures.enqueued
