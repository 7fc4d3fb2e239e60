use Rattle.std.proofs.Common.{◌≡◌, ◌<◌, true, false, length, get_or, set, ap, ◌∙◌, subst}
use Rattle.cons_solve.proofs.QueueLaws.{queued_taken, queued_first, flag_within, queued_nothing}
use Rattle.cons_solve.proofs.queue.Queue.next.Goals as goal

pub replace-requires : goal.replace-requires
replace-requires c =
    let s = c.turn_over.new.self in
    flag_within s.flags c.in-Some.at (queued_first s.flags s.soon c.pop.new.self s.later c.in-Some.at c.in-Some.ensures c.in_ok-turn_over.ensures.queued)

pub returns-in-Some-clause-some : goal.returns-in-Some-clause-some
returns-in-Some-clause-some c =
    let s = c.turn_over.new.self in
    let at = c.in-Some.at in
    let same = c.in_ok-turn_over.ensures.flags in
    let on : get_or s.flags at false ≡ true = queued_first s.flags s.soon c.pop.new.self s.later at c.in-Some.ensures c.in_ok-turn_over.ensures.queued in
    (subst (λ f. at < length f) same (flag_within s.flags at on), subst (λ f. get_or f at false ≡ true) same on, c.replace.ensures.after ∙ ap (λ f. set f at false) same)

pub returns-in-Some-clause-queued : goal.returns-in-Some-clause-queued
returns-in-Some-clause-queued c =
    let s = c.turn_over.new.self in
    queued_taken s.flags c.replace.new.self s.soon c.pop.new.self s.later c.in-Some.at c.in-Some.ensures c.replace.ensures.after c.in_ok-turn_over.ensures.queued

pub returns-in-None-clause-none : goal.returns-in-None-clause-none
returns-in-None-clause-none c =
    let s = c.turn_over.new.self in
    let empty = c.in-None.ensures.0 in
    queued_nothing s.flags c.args.self.now.flags s.soon s.later c.in_ok-turn_over.ensures.flags empty (c.in_ok-turn_over.ensures.empty empty) c.in_ok-turn_over.ensures.queued
