use Rattle.cons_gen_rows.proofs.PatternExits.{no_third}
use Rattle.cons_gen_rows.proofs.patterns.third.Goals as goal

pub returns-then-args-le2 : goal.returns-then-args-le2
returns-then-args-le2 c = no_third c.args.args.now c.if-args-le2.true
