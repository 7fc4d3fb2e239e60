use Rattle.cons_tree.specs.Codes.{summary_code}
use Rattle.cons_tree.specs.SameBy.{same_by_told}
use Rattle.cons_tree.proofs.equality.SummaryPartialEq.eq.Goals as goal

pub returns : goal.returns
returns c = same_by_told summary_code c.args.self.now c.args.other.now c.same_summary.result c.same_summary.ensures
