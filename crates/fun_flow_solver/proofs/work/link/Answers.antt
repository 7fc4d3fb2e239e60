use Rattle.std.proofs.Common.{inr, refl}
use Rattle.std.proofs.lemmas.Result.{on_ok_weaker}
use Rattle.fun_flow_solver.proofs.Working.{link_keeps}
use Rattle.fun_flow_solver.proofs.work.link.Goals as goal

pub send-requires-clause-inside : goal.send-requires-clause-inside
send-requires-clause-inside c = λ x h. c.count-count.ensures.graph.inside c.args.from x h

pub returns-clause-keeps : goal.returns-clause-keeps
returns-clause-keeps c = λ P j.
    on_ok_weaker c.add.result
    (λ e. link_keeps P c.args.sets.now c.args.out.now c.args.queue.now.items c.send.new.sets c.add.new.self c.send.new.queue.items c.args.from c.args.to c.in_ok-send.ensures.moves c.in_ok-send.ensures.only c.in_ok-send.ensures.there
    c.add.ensures.count e j)
    c.add.ensures.pairs

pub returns-clause-added : goal.returns-clause-added
returns-clause-added c = on_ok_weaker c.add.result (λ e. (e c.args.from c.args.to).1 (inr (refl, refl))) c.add.ensures.pairs
