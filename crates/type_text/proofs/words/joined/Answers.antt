use Rattle.std.proofs.Common.{add-one}
use Rattle.type_text.proofs.words.joined.Goals as goal

pub returns-clause-value : goal.returns-clause-value
returns-clause-value c = simp add-one at c.join.ensures.value
