use Rattle.cons_tree.specs.Trails.{laid}
use Rattle.cons_solve.proofs.LowLaws.{applying_position, applying_goes_on}
use Rattle.cons_tree.proofs.TrailLaws.{trailed_then}
use Rattle.table_verify_sweeps.proofs.joins.lay_each.Goals as goal

pub sink-requires-clause-position : goal.sink-requires-clause-position
sink-requires-clause-position c =
    (applying_position c.loop-low.lows c.pop.new.self c.in-Some.low c.loop-low.slots.types (laid c.args.lows c.args.slots.now.types) c.in-Some.ensures c.loop-low.invariant.applying).0

pub sink-requires-clause-below : goal.sink-requires-clause-below
sink-requires-clause-below c =
    (applying_position c.loop-low.lows c.pop.new.self c.in-Some.low c.loop-low.slots.types (laid c.args.lows c.args.slots.now.types) c.in-Some.ensures c.loop-low.invariant.applying).1

pub loop-low-preserved : goal.loop-low-preserved
loop-low-preserved c = record {
  applying = applying_goes_on c.loop-low.lows c.pop.new.self c.in-Some.low c.loop-low.slots.types c.sink.new.slots.types (laid c.args.lows c.args.slots.now.types) c.in-Some.ensures c.in_ok-sink.ensures.value c.loop-low.invariant.applying;
  trailed = trailed_then c.args.slots.now c.loop-low.slots c.sink.new.slots c.loop-low.invariant.trailed c.in_ok-sink.ensures.trailed;
}
