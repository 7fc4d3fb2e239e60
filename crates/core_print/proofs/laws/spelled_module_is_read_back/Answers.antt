use Rattle.core_print.proofs.Whole.{spelled_is_read_back}
use Rattle.core_print.proofs.laws.spelled_module_is_read_back.Goals as goal

pub returns : goal.returns
returns c = spelled_is_read_back
