use Rattle.core_scan.proofs.PassLemmas.{first_once}
use Rattle.core_scan.proofs.laws.first_fault_once.Goals as goal

pub returns : goal.returns
returns c = first_once
