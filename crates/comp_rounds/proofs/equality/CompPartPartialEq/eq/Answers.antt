use Rattle.comp_rounds.specs.Codes.{part_code}
use Rattle.cons_tree.specs.SameBy.{same_by_told}
use Rattle.comp_rounds.proofs.equality.CompPartPartialEq.eq.Goals as goal

pub returns : goal.returns
returns c = same_by_told part_code c.args.self.now c.args.other.now c.same_part.result c.same_part.ensures
