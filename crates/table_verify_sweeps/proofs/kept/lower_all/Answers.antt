use Rattle.std.proofs.Common.{length, ◌∙◌, subst}
use Rattle.cons_tree.specs.Trails.{Within}
use Rattle.cons_tree.proofs.TrailLaws.{trailed_then, within_parts}
use Rattle.cons_solve.proofs.PlanLaws.{met_low, lowering_on}
use Rattle.table_verify_sweeps.proofs.kept.lower_all.Goals as goal

pub sink-requires-clause-position : goal.sink-requires-clause-position
sink-requires-clause-position c =
    let s = c.loop-low.slots in
    (within_parts (length s.types) c.pop.new.self c.in-Some.low (subst (Within (length s.types)) c.in-Some.ensures c.loop-low.invariant.within)).1

pub sink-requires-clause-below : goal.sink-requires-clause-below
sink-requires-clause-below c =
    let low = c.in-Some.low in
    met_low c.type_facts.ensures c.loop-low.slots.types low.slot low.ty c.in_ok-met.met c.in_ok-met.ensures

pub loop-low-preserved : goal.loop-low-preserved
loop-low-preserved c =
    let inv = c.loop-low.invariant in
    let on = lowering_on c.loop-low.lows c.pop.new.self c.in-Some.low c.loop-low.slots.types c.sink.new.slots.types c.in_ok-met.met c.in-Some.ensures c.in_ok-met.ensures c.in_ok-sink.ensures.value inv.within in
    record {
      within = on.0;
      rest = on.1 ∙ inv.rest;
      trailed = trailed_then c.args.slots.now c.loop-low.slots c.sink.new.slots inv.trailed c.in_ok-sink.ensures.trailed;
    }
