use Rattle.cons_tree.specs.Callees.{found}
use Rattle.comp_rounds.specs.Parts.{with_listed}
use Rattle.comp_rounds.proofs.Listing.{listed_more}
use Rattle.comp_rounds.proofs.SameCallees.{set_callee}
use Rattle.comp_rounds.proofs.component.enter_listed.Goals as goal

pub loop-at-preserved : goal.loop-at-preserved
loop-at-preserved c =
    let x = c.index-listed-at.result in
    let old = found c.loop-at.known in
    let new = found c.set.new.self in
    listed_more c.args.listed.now c.args.summaries.now c.loop-at.at x old new
    (with_listed (found c.args.known.now) c.args.listed.now c.args.summaries.now) c.in_ok-callee.callee c.loop-at-test.true
    c.index-listed-at.is (set_callee old new x.0 x.1 c.in_ok-callee.callee c.in_ok-set.ensures.set c.in_ok-set.ensures.others)
    c.in_ok-callee.ensures.value c.loop-at.invariant
