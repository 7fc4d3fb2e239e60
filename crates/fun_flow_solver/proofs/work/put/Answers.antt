use Rattle.std.proofs.Common.{inr, refl, sym, subst}
use Rattle.fun_flow_solver.specs.steps.Work.{Moves}
use Rattle.fun_flow_solver.proofs.Working.{put_new}
use Rattle.fun_flow_solver.proofs.work.put.Goals as goal

pub returns-in-Ok-clause-moves : goal.returns-in-Ok-clause-moves
returns-in-Ok-clause-moves c =
    subst (λ z. Moves c.args.sets.now c.args.queue.now.items c.add.new.self z) (sym c.in-Ok.ensures.items)
    (put_new c.args.sets.now c.add.new.self c.args.queue.now.items c.args.place c.args.item c.add.ensures.count c.in_ok-add.ensures.pairs)

pub returns-in-Ok-clause-there : goal.returns-in-Ok-clause-there
returns-in-Ok-clause-there c = (c.in_ok-add.ensures.pairs c.args.place c.args.item).1 (inr (refl, refl))
