use Rattle.cons_gen_rows.proofs.PatternRounds.{outer_round}
use Rattle.cons_gen_rows.proofs.patterns.walk_outer.Goals as goal

pub loop-position-preserved : goal.loop-position-preserved
loop-position-preserved c = outer_round c.args.made.now c.loop-position.made c.walk_outermost.new.made _ _ _ c.args.slots.now c.args.patterns.now c.loop-position.position c.index-patterns-position.result c.loop-position-test.true
    c.index-patterns-position.is c.in_ok-walk_outermost.ensures c.loop-position.invariant
