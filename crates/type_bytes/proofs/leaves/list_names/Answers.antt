use Rattle.type_bytes.specs.steps.Reading.{name_at}
use Rattle.type_bytes.proofs.Loops.{read_more}
use Rattle.type_bytes.proofs.leaves.list_names.Goals as goal

pub loop-preserved : goal.loop-preserved
loop-preserved c = read_more name_at c.args.count c.loop.counter c.loop.rest.now c.loop.atoms _ c.add.new.self c.in_ok-atom.atom c.in_ok-atom.after.now c.loop-test.true c.in_ok-add.ensures.ok c.in_ok-atom.ensures c.loop.invariant
