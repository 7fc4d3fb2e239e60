use Rattle.components.proofs.Existing as existing
use Rattle.components.proofs.laws.a_numbering.Goals as goal

pub returns : goal.returns
returns c = λ graph inside. existing.a_numbering graph inside
