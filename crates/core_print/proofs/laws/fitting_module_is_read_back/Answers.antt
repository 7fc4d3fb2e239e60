use Rattle.core_print.proofs.Whole.{fitting_is_read_back}
use Rattle.core_print.proofs.laws.fitting_module_is_read_back.Goals as goal

pub returns : goal.returns
returns c = fitting_is_read_back
