use Rattle.std.proofs.Common.{◌<◌, subst, sym, arith}
use Rattle.std.specs.Prelude.{slice_index}
use Rattle.fun_flow_solver.specs.Holds.{Holds}
use Rattle.fun_flow_solver.proofs.Working.{keeps_then, application_there, applied_more, applied_all}
use Rattle.fun_flow_solver.proofs.work.apply_all.Goals as goal

pub index-application-requires : goal.index-application-requires
index-application-requires c =
    subst (λ n. slice_index c.targets-number-items.result.now c.loop-number.number-index < n) (sym c.args.problem.now.applications.ok.0)
    (c.requires.at.below c.args.place (slice_index c.targets-number-items.result.now c.loop-number.number-index)
    (application_there c.args.problem.now c.args.applications_at.now 0 c.args.place c.loop-number.number-index c.targets-number-items.result.now c.targets-number-items.ensures (omega (arith, c.loop-number-test.true))))

pub apply_one-requires-clause-application : goal.apply_one-requires-clause-application
apply_one-requires-clause-application c = (
  slice_index c.targets-number-items.result.now c.loop-number.number-index,
  c.requires.at.below c.args.place (slice_index c.targets-number-items.result.now c.loop-number.number-index)
      (application_there c.args.problem.now c.args.applications_at.now 0 c.args.place c.loop-number.number-index c.targets-number-items.result.now c.targets-number-items.ensures (omega (arith, c.loop-number-test.true))),
  sym c.index-application.ensures,
)

pub apply_one-requires-clause-held_there : goal.apply_one-requires-clause-held_there
apply_one-requires-clause-held_there c =
    subst (λ z. Holds c.args.problem.now z c.args.item)
    (sym (c.requires.at.operator c.args.place (slice_index c.targets-number-items.result.now c.loop-number.number-index) c.index-application.result.now
    (application_there c.args.problem.now c.args.applications_at.now 0 c.args.place c.loop-number.number-index c.targets-number-items.result.now c.targets-number-items.ensures (omega (arith, c.loop-number-test.true)))
    (sym c.index-application.ensures)))
    c.requires.held_there

pub loop-number-preserved : goal.loop-number-preserved
loop-number-preserved c = (
  keeps_then c.args.problem.now c.args.sets.now c.args.out.now c.args.queue.now.items c.loop-number.sets c.loop-number.out c.loop-number.queue.items c.apply_one.new.sets c.apply_one.new.out c.apply_one.new.queue.items
      c.loop-number.invariant.0 c.in_ok-apply_one.ensures.keeps,
  applied_more c.args.problem.now c.loop-number.sets c.loop-number.out c.apply_one.new.sets c.apply_one.new.out c.args.item c.loop-number.number-index c.targets-number-items.result.now c.index-application.result.now
      c.in_ok-apply_one.ensures.keeps.grown c.in_ok-apply_one.ensures.keeps.edges
      (c.requires.at.below c.args.place (slice_index c.targets-number-items.result.now c.loop-number.number-index)
      (application_there c.args.problem.now c.args.applications_at.now 0 c.args.place c.loop-number.number-index c.targets-number-items.result.now c.targets-number-items.ensures (omega (arith, c.loop-number-test.true))))
      (sym c.index-application.ensures) c.in_ok-apply_one.ensures.applied c.loop-number.invariant.1,
)

pub returns-clause-applied : goal.returns-clause-applied
returns-clause-applied c =
    applied_all c.args.problem.now c.args.applications_at.now c.loop-number.sets c.loop-number.out c.args.place c.args.item 0 c.targets-number-items.result.now c.requires.at c.targets-number-items.ensures
    (λ j l. c.loop-number.invariant.1 j (omega (arith, l, c.loop-number-test.false)))
