use Rattle.std.proofs.Common.{◌<◌, length, subst, sym, arith}
use Rattle.std.specs.Prelude.{slice_index_or}
use Rattle.fun_flow_solver.specs.declared.problem.Pair.{Pair}
use Rattle.fun_flow_solver.proofs.Working.{item_is, shorter, moves_then, starts_more}
use Rattle.fun_flow_solver.proofs.solving.start.Goals as goal

abbrev none_pair : Pair
none_pair = record { place = 0; item = 0 }

pub put-requires-clause-place : goal.put-requires-clause-place
put-requires-clause-place c =
    let low : c.loop-number.number < length c.as_slice-starts.result.now = omega (arith, c.loop-number-test.true) in
    subst (λ m. (slice_index_or c.as_slice-starts.result.now c.loop-number.number none_pair).place < m) (sym c.loop-number.invariant.0.count)
    (c.requires.below.starts (slice_index_or c.as_slice-starts.result.now c.loop-number.number none_pair) (
      c.loop-number.number,
      shorter c.as_slice-starts.result.now c.args.problem.now.starts.items c.loop-number.number c.as_slice-starts.ensures.value low,
      item_is c.as_slice-starts.result.now c.args.problem.now.starts.items c.loop-number.number none_pair c.as_slice-starts.ensures.value low,
    )).0

pub put-requires-clause-item : goal.put-requires-clause-item
put-requires-clause-item c =
    let low : c.loop-number.number < length c.as_slice-starts.result.now = omega (arith, c.loop-number-test.true) in
    subst (λ m. (slice_index_or c.as_slice-starts.result.now c.loop-number.number none_pair).item < m) (sym c.loop-number.invariant.0.count)
    (c.requires.below.starts (slice_index_or c.as_slice-starts.result.now c.loop-number.number none_pair) (
      c.loop-number.number,
      shorter c.as_slice-starts.result.now c.args.problem.now.starts.items c.loop-number.number c.as_slice-starts.ensures.value low,
      item_is c.as_slice-starts.result.now c.args.problem.now.starts.items c.loop-number.number none_pair c.as_slice-starts.ensures.value low,
    )).1

pub loop-number-preserved : goal.loop-number-preserved
loop-number-preserved c =
    let low : c.loop-number.number < length c.as_slice-starts.result.now = omega (arith, c.loop-number-test.true) in (
      moves_then c.args.sets.now c.args.queue.now.items c.loop-number.sets c.loop-number.queue.items c.put.new.sets c.put.new.queue.items c.loop-number.invariant.0 c.in_ok-put.ensures.moves,
      starts_more c.args.problem.now c.args.sets.now c.loop-number.sets c.put.new.sets c.loop-number.number (slice_index_or c.as_slice-starts.result.now c.loop-number.number none_pair)
          (shorter c.as_slice-starts.result.now c.args.problem.now.starts.items c.loop-number.number c.as_slice-starts.ensures.value low)
          (item_is c.as_slice-starts.result.now c.args.problem.now.starts.items c.loop-number.number none_pair c.as_slice-starts.ensures.value low)
          c.in_ok-put.ensures.moves.grown c.in_ok-put.ensures.only c.in_ok-put.ensures.there c.loop-number.invariant.1.0 c.loop-number.invariant.1.1,
    )
