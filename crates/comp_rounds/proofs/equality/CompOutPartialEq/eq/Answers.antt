use Rattle.comp_rounds.specs.Codes.{output_code}
use Rattle.cons_tree.specs.SameBy.{same_by_told}
use Rattle.comp_rounds.proofs.equality.CompOutPartialEq.eq.Goals as goal

pub returns : goal.returns
returns c = same_by_told output_code c.args.self.now c.args.other.now c.same_output.result c.same_output.ensures
