use Rattle.core_scan.proofs.PassLemmas.{lexed_once}
use Rattle.core_scan.proofs.laws.lexed_once.Goals as goal

pub returns : goal.returns
returns c = lexed_once
