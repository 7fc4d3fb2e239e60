use Rattle.core_scan.proofs.PassLemmas.{never_both}
use Rattle.core_scan.proofs.laws.lexed_without_fault.Goals as goal

pub returns : goal.returns
returns c = never_both
