use Rattle.std.proofs.Common.{refl}
use Rattle.cons_gen_rows.proofs.Runs.{run_round}
use Rattle.cons_gen_rows.proofs.generator.Generator.run.Goals as goal

pub loop-position-preserved : goal.loop-position-preserved
loop-position-preserved c = run_round c.args.first c.args.count c.loop-position.position _ c.loop-position.slots c.add.new.self c.loop-position-test.true refl c.in_ok-add.ensures.ok c.loop-position.invariant
