use Rattle.core_reading_laws.proofs.AlongTokens.{tokens_decided}
use Rattle.core_reading_laws.proofs.laws.tokens_are_decided.Goals as goal

pub returns : goal.returns
returns c = tokens_decided
