use Rattle.std.proofs.Common.{refl}
use Rattle.cons_solve.specs.declared.plan.Plan.TheVariants.{Blank}
use Rattle.cons_solve.proofs.MemoLaws.{pushed_same}
use Rattle.cons_solve.proofs.plan.blanks.Goals as goal

pub loop-member-preserved : goal.loop-member-preserved
loop-member-preserved c = pushed_same c.loop-member.plans c.add.new.self Blank Blank c.in_ok-add.ensures.ok refl c.loop-member.invariant
