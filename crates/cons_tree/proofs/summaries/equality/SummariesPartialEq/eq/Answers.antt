use Rattle.cons_tree.specs.Codes.{tables_code}
use Rattle.cons_tree.specs.SameBy.{same_by_told}
use Rattle.cons_tree.proofs.summaries.equality.SummariesPartialEq.eq.Goals as goal

pub returns : goal.returns
returns c = same_by_told tables_code c.args.self.now c.args.other.now c.same_summaries.result c.same_summaries.ensures
