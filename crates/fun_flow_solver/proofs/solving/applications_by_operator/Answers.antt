use Rattle.std.proofs.Common.{◌≡◌, ◌<◌, length, subst, sym, ◌∙◌, arith}
use Rattle.std.specs.Prelude.{slice_index_or}
use Rattle.fun_flow_solver.specs.declared.problem.Application.{Application}
use Rattle.fun_flow_solver.specs.steps.Work.{AreAt}
use Rattle.fun_flow_solver.proofs.Working.{item_is, shorter, at_more}
use Rattle.fun_flow_solver.proofs.solving.applications_by_operator.Goals as goal

abbrev none_call : Application
none_call = record { operator = 0; arity = 0; place = 0 }

pub add-requires-clause-from : goal.add-requires-clause-from
add-requires-clause-from c =
    let low : c.loop-number.number < length c.as_slice-applications.result.now = omega (arith, c.loop-number-test.true) in
    subst (λ m. (slice_index_or c.as_slice-applications.result.now c.loop-number.number none_call).operator < m) (sym c.loop-number.invariant.0)
    (c.requires.below.applications (slice_index_or c.as_slice-applications.result.now c.loop-number.number none_call) (
      c.loop-number.number,
      shorter c.as_slice-applications.result.now c.args.problem.now.applications.items c.loop-number.number c.as_slice-applications.ensures.value low,
      item_is c.as_slice-applications.result.now c.args.problem.now.applications.items c.loop-number.number none_call c.as_slice-applications.ensures.value low,
    )).0

pub loop-number-preserved : goal.loop-number-preserved
loop-number-preserved c =
    let low : c.loop-number.number < length c.as_slice-applications.result.now = omega (arith, c.loop-number-test.true) in (
      c.add.ensures.count ∙ c.loop-number.invariant.0,
      at_more c.args.problem.now c.loop-number.applications_at c.add.new.self c.loop-number.number (slice_index_or c.as_slice-applications.result.now c.loop-number.number none_call)
          (shorter c.as_slice-applications.result.now c.args.problem.now.applications.items c.loop-number.number c.as_slice-applications.ensures.value low)
          (item_is c.as_slice-applications.result.now c.args.problem.now.applications.items c.loop-number.number none_call c.as_slice-applications.ensures.value low)
          c.in_ok-add.ensures.pairs c.loop-number.invariant.1,
    )

pub returns-clause-at : goal.returns-clause-at
returns-clause-at c =
    let e : c.loop-number.number ≡ length c.as_slice-applications.result.now = omega (arith, c.loop-number-test.false, c.loop-number.auto.number-end) in
    subst (λ m. AreAt c.args.problem.now c.loop-number.applications_at m) (subst (λ xs. c.loop-number.number ≡ length xs) c.as_slice-applications.ensures.value e) c.loop-number.invariant.1
