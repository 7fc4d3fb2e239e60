use Rattle.core_parse.proofs.LexedWeights.{lexed_weight}
use Rattle.core_parse.proofs.laws.lexed_weight.Goals as goal

pub returns : goal.returns
returns c = lexed_weight
