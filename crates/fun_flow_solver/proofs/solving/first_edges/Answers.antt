use Rattle.std.proofs.Common.{◌<◌, length, subst, sym, ◌∙◌, arith}
use Rattle.std.specs.Prelude.{slice_index_or}
use Rattle.fun_flow_solver.specs.declared.problem.Edge.{Edge}
use Rattle.fun_flow_solver.proofs.Working.{item_is, shorter, edges_more}
use Rattle.fun_flow_solver.proofs.solving.first_edges.Goals as goal

abbrev none_edge : Edge
none_edge = record { from = 0; to = 0 }

pub add-requires-clause-from : goal.add-requires-clause-from
add-requires-clause-from c =
    let low : c.loop-number.number < length c.as_slice-flows.result.now = omega (arith, c.loop-number-test.true) in
    subst (λ m. (slice_index_or c.as_slice-flows.result.now c.loop-number.number none_edge).from < m) (sym c.loop-number.invariant.0)
    (c.requires.below.flows (slice_index_or c.as_slice-flows.result.now c.loop-number.number none_edge) (
      c.loop-number.number,
      shorter c.as_slice-flows.result.now c.args.problem.now.flows.items c.loop-number.number c.as_slice-flows.ensures.value low,
      item_is c.as_slice-flows.result.now c.args.problem.now.flows.items c.loop-number.number none_edge c.as_slice-flows.ensures.value low,
    )).0

pub add-requires-clause-to : goal.add-requires-clause-to
add-requires-clause-to c =
    let low : c.loop-number.number < length c.as_slice-flows.result.now = omega (arith, c.loop-number-test.true) in
    subst (λ m. (slice_index_or c.as_slice-flows.result.now c.loop-number.number none_edge).to < m) (sym c.loop-number.invariant.0)
    (c.requires.below.flows (slice_index_or c.as_slice-flows.result.now c.loop-number.number none_edge) (
      c.loop-number.number,
      shorter c.as_slice-flows.result.now c.args.problem.now.flows.items c.loop-number.number c.as_slice-flows.ensures.value low,
      item_is c.as_slice-flows.result.now c.args.problem.now.flows.items c.loop-number.number none_edge c.as_slice-flows.ensures.value low,
    )).1

pub loop-number-preserved : goal.loop-number-preserved
loop-number-preserved c =
    let low : c.loop-number.number < length c.as_slice-flows.result.now = omega (arith, c.loop-number-test.true) in (
      c.add.ensures.count ∙ c.loop-number.invariant.0,
      edges_more c.args.problem.now c.loop-number.out c.add.new.self c.loop-number.number (slice_index_or c.as_slice-flows.result.now c.loop-number.number none_edge)
          (shorter c.as_slice-flows.result.now c.args.problem.now.flows.items c.loop-number.number c.as_slice-flows.ensures.value low)
          (item_is c.as_slice-flows.result.now c.args.problem.now.flows.items c.loop-number.number none_edge c.as_slice-flows.ensures.value low)
          c.in_ok-add.ensures.pairs c.loop-number.invariant.1.0 c.loop-number.invariant.1.1,
    )
