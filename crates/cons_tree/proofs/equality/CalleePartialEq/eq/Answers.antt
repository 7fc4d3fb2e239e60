use Rattle.cons_tree.specs.Codes.{callee_code}
use Rattle.cons_tree.specs.SameBy.{same_by_told}
use Rattle.cons_tree.proofs.equality.CalleePartialEq.eq.Goals as goal

pub returns : goal.returns
returns c = same_by_told callee_code c.args.self.now c.args.other.now c.same_callee.result c.same_callee.ensures
