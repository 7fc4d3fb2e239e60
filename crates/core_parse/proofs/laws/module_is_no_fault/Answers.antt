use Rattle.core_parse.proofs.Whole.{module_is_no_fault}
use Rattle.core_parse.proofs.laws.module_is_no_fault.Goals as goal

pub returns : goal.returns
returns c = module_is_no_fault
