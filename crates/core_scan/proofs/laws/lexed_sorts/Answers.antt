use Rattle.core_scan.proofs.TokenSorts.{all_known}
use Rattle.core_scan.proofs.laws.lexed_sorts.Goals as goal

pub returns : goal.returns
returns c = all_known
