use Rattle.core_lines.proofs.Counted.{as_many}
use Rattle.core_lines.proofs.laws.as_many_as_labels.Goals as goal

pub returns : goal.returns
returns c = as_many
