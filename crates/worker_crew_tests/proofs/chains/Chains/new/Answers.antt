use Rattle.std.proofs.Common.{arith}
use Rattle.worker_crew_tests.proofs.Chained.{chained_more, one_longer}
use Rattle.worker_crew_tests.proofs.chains.Chains.new.Goals as goal

pub loop-c-preserved : goal.loop-c-preserved
loop-c-preserved c =
    let kept = c.loop-c.invariant in (
      one_longer _ _ _ _ kept.0 c.in_ok-add.ensures.ok,
      one_longer _ _ _ _ kept.1 c.in_ok-add-2.ensures.ok,
      chained_more _ _ _ _ kept.1 kept.2 c.in_ok-callees_in.ensures c.in_ok-add-2.ensures.ok,
    )

pub invariant_of-result : goal.invariant_of-result
invariant_of-result c =
    let kept = c.loop-c.invariant in record {
      as_many = omega (arith, kept.0, kept.1);
      few = omega (arith, kept.0, c.loop-c.auto.c-end, c.ranges.count.fits);
      ascends = λ k within. kept.2 k (omega (arith, kept.0, within));
    }
