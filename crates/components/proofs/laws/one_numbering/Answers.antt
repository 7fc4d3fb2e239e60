use Rattle.components.proofs.OneNumbering as one
use Rattle.components.proofs.laws.one_numbering.Goals as goal

pub returns : goal.returns
returns c = λ graph other c d same rc rd. one.one_numbering graph other c d same rc rd
