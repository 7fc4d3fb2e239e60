use Rattle.analysis_typings.proofs.SmallNames.{small_definitions}
use Rattle.analysis_typings.proofs.laws.small_definitions.Goals as goal

pub returns : goal.returns
returns c = small_definitions
