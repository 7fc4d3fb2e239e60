use Rattle.std.proofs.Common.{sym, ap, ◌∙◌}
use Rattle.type_kinds.proofs.Results.{on_both}
use Rattle.fun_flow_solver.specs.Holds.{by_unknown, by_body, entered_of}
use Rattle.fun_flow_solver.proofs.Working.{put_keeps}
use Rattle.fun_flow_solver.proofs.work.apply_one.Goals as goal

pub returns-in-Unknown-clause-keeps : goal.returns-in-Unknown-clause-keeps
returns-in-Unknown-clause-keeps c =
    on_both c.put.result c.put.ensures.moves c.put.ensures.only
    (λ m o. put_keeps c.args.problem.now c.args.sets.now c.args.out.now c.args.queue.now.items c.put.new.sets c.put.new.queue.items c.args.application.place 0 m o
    (by_unknown c.requires.application c.requires.held_there (ap (λ ks. entered_of ks c.args.item c.args.application.arity) (sym c.as_slice.ensures.value) ∙ sym c.entered.ensures ∙ c.in-Unknown.is)))

pub returns-in-Body-clause-keeps : goal.returns-in-Body-clause-keeps
returns-in-Body-clause-keeps c =
    c.link.ensures.keeps c.args.problem.now
    (λ x r. by_body c.requires.application c.requires.held_there (ap (λ ks. entered_of ks c.args.item c.args.application.arity) (sym c.as_slice.ensures.value) ∙ sym c.entered.ensures ∙ c.in-Body.is) r)
