use Rattle.std.proofs.Common.{◌<◌, length, subst, Some}
use Rattle.std.proofs.lemmas.Result.{on_ok_weaker}
use Rattle.type_kinds.proofs.Results.{on_both}
use Rattle.fun_flow_solver.proofs.Working.{holds_below, spread_keeps, step_ends}
use Rattle.fun_flow_solver.proofs.work.step.Goals as goal

pub spread-requires-clause-item : goal.spread-requires-clause-item
spread-requires-clause-item c = (holds_below c.args.problem.now (length c.args.sets.now) c.requires.below c.args.pair.place c.args.pair.item (c.requires.work.sound c.args.pair.place c.args.pair.item c.requires.held)).1

pub spread-requires-clause-inside : goal.spread-requires-clause-inside
spread-requires-clause-inside c = λ q h. subst (λ n. q < n) c.requires.edge_count (c.count-edge_count.ensures.graph.inside c.args.pair.place q h)

pub returns-clause-grown : goal.returns-clause-grown
returns-clause-grown c = on_ok_weaker c.apply_all.result (λ k. λ p x h. k.grown p x (c.in_ok-spread.ensures.moves.grown p x h)) c.apply_all.ensures.keeps

pub returns-clause-work : goal.returns-clause-work
returns-clause-work c =
    on_both c.apply_all.result c.apply_all.ensures.keeps c.apply_all.ensures.applied
    (λ k a. step_ends c.args.problem.now c.spread.new.sets c.args.out.now c.spread.new.queue.items c.apply_all.new.sets c.apply_all.new.out c.apply_all.new.queue.items c.args.pair
    (spread_keeps c.args.problem.now (Some c.args.pair) c.args.sets.now c.args.out.now c.args.queue.now.items c.spread.new.sets c.spread.new.queue.items c.args.pair.place c.args.pair.item c.requires.work c.in_ok-spread.ensures.moves
    c.in_ok-spread.ensures.only c.requires.held)
    (c.in_ok-spread.ensures.moves.grown c.args.pair.place c.args.pair.item c.requires.held)
    c.in_ok-spread.ensures.there k a)
