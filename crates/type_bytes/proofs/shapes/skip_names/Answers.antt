use Rattle.type_bytes.specs.steps.Cuts.{name_cut}
use Rattle.type_bytes.proofs.Loops.{cut_more}
use Rattle.type_bytes.proofs.shapes.skip_names.Goals as goal

pub loop-preserved : goal.loop-preserved
loop-preserved c = cut_more name_cut c.args.count c.loop.counter c.loop.rest.now _ c.in_ok-rest.rest.now c.loop-test.true c.in_ok-rest.ensures c.loop.invariant
