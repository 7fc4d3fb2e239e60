use Rattle.std.proofs.Common.{sym, subst}
use Rattle.table_verify_sweeps.specs.steps.Memos.{memos, AreRight}
use Rattle.table_verify_sweeps.proofs.KeptLaws.{right_longer}
use Rattle.table_verify_sweeps.proofs.kept.lengthen.Goals as goal

pub loop-at-preserved : goal.loop-at-preserved
loop-at-preserved c = λ cs xs r. subst (λ ks. AreRight cs (memos ks) xs) (sym c.in_ok-add.ensures.ok) (right_longer cs c.loop-at.kept xs (c.loop-at.invariant cs xs r))
