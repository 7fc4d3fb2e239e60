use Rattle.core_reading_laws.proofs.OneReading.{one_module}
use Rattle.core_reading_laws.proofs.laws.one_module_of_tokens.Goals as goal

pub returns : goal.returns
returns c = one_module
