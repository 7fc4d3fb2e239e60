use Rattle.cons_tree.specs.Codes.{signature_code}
use Rattle.cons_tree.specs.SameBy.{same_by_told}
use Rattle.cons_tree.proofs.equality.SigPartialEq.eq.Goals as goal

pub returns : goal.returns
returns c = same_by_told signature_code c.args.self.now c.args.other.now c.same_signature.result c.same_signature.ensures
