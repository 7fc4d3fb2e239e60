use Rattle.std.proofs.Common.{◌+◌, [], ◌∷◌, Some, length, length-append, ap, ◌∙◌}
use Rattle.cons_solve.proofs.MemoLaws.{pushed_same}
use Rattle.cons_solve.proofs.plan.nothing_kept.Goals as goal

pub loop-at-preserved : goal.loop-at-preserved
loop-at-preserved c = record {
  long = ap length c.in_ok-add.ensures.ok ∙ length-append c.loop-at.kept (Some c.new.result ∷ []) ∙ ap (λ n. n + 1) c.loop-at.invariant.long;
  empty = pushed_same c.loop-at.kept c.add.new.self (Some []) (Some c.new.result) c.in_ok-add.ensures.ok (ap Some c.new.ensures) c.loop-at.invariant.empty;
}
