use Rattle.std.proofs.Common.{◌≡◌, ◌<◌, ◌++◌, ◌∷◌, [], false, length, get_or, arith}
use Rattle.std.proofs.lemmas.Result.{IfOk-weaker}
use Rattle.cons_solve.specs.steps.Positions.{Queued}
use Rattle.cons_solve.proofs.QueueLaws.{queued_soon, queued_later, read_flag}
use Rattle.cons_solve.proofs.queue.Queue.enqueue_one.Goals as goal

pub returns-in-Part-clause-queued : goal.returns-in-Part-clause-queued
returns-in-Part-clause-queued c =
    let s = c.args.self.now in
    let m = c.args.member in
    let low : m < length s.flags = omega (arith, c.if-member-len.false, c.len.ensures) in
    let off : get_or s.flags m false ≡ false = read_flag s.flags m c.at.result.now c.at.ensures c.if-at.false in
    IfOk-weaker c.add.result (λ _. c.add.new.self ≡ s.soon ++ m ∷ []) (λ _. Queued c.replace.new.self (c.add.new.self ++ s.later))
    (λ _ e. queued_soon s.flags c.replace.new.self s.soon c.add.new.self s.later m low off c.replace.ensures.after e c.requires.queued) c.add.ensures.ok

pub returns-in-All-clause-queued : goal.returns-in-All-clause-queued
returns-in-All-clause-queued c =
    let s = c.args.self.now in
    let m = c.args.member in
    let low : m < length s.flags = omega (arith, c.if-member-len.false, c.len.ensures) in
    let off : get_or s.flags m false ≡ false = read_flag s.flags m c.at.result.now c.at.ensures c.if-at.false in
    IfOk-weaker c.add-in-All.result (λ _. c.add-in-All.new.self ≡ s.later ++ m ∷ []) (λ _. Queued c.replace.new.self (s.soon ++ c.add-in-All.new.self))
    (λ _ e. queued_later s.flags c.replace.new.self s.soon s.later c.add-in-All.new.self m low off c.replace.ensures.after e c.requires.queued) c.add-in-All.ensures.ok
