use Rattle.std.proofs.Common.{arith}
use Rattle.cons_tree.specs.Callees.{found}
use Rattle.analysis.proofs.KeptReports.{still_all, still_more}
use Rattle.analysis.proofs.kept.stands.Goals as goal

pub loop-rest-preserved : goal.loop-rest-preserved
loop-rest-preserved c =
    still_more (found c.args.known.now) c.as_slice-rests.result.now c.loop-rest.rest-index c.rest-item.result (omega arith) c.rest-item.is (c.is_still.ensures c.if-not-is_still.false) c.loop-rest.invariant

pub returns : goal.returns
returns c = λ e. still_all (found c.args.known.now) c.as_slice-rests.result.now c.args.kept.now.rests c.loop-rest.rest-index c.as_slice-rests.ensures (omega arith) c.loop-rest.invariant
