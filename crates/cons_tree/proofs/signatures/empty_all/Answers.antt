use Rattle.std.proofs.Common.{length, set, arith, ap, ◌∙◌}
use Rattle.cons_tree.proofs.LoopLaws.{emptied_more, emptied_length, emptied_all}
use Rattle.cons_tree.proofs.signatures.empty_all.Goals as goal

pub replace-requires : goal.replace-requires
replace-requires c =
    let long = ap length c.loop-at.invariant ∙ emptied_length c.loop-at.at c.args.types.now in
    omega (arith, c.loop-at-test.true, c.len-count.ensures, long)

pub loop-at-preserved : goal.loop-at-preserved
loop-at-preserved c =
    c.replace.ensures.after ∙ (λ i. set (c.loop-at.invariant i) c.loop-at.at (c.none.ensures.value i)) ∙ emptied_more c.loop-at.at c.args.types.now

pub returns : goal.returns
returns c = c.loop-at.invariant ∙ emptied_all c.loop-at.at c.args.types.now (omega (arith, c.loop-at-test.false, c.len-count.ensures))
