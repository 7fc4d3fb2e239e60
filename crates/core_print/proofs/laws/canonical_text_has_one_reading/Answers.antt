use Rattle.core_print.proofs.Whole.{one_reading}
use Rattle.core_print.proofs.laws.canonical_text_has_one_reading.Goals as goal

pub returns : goal.returns
returns c = one_reading c.lexed_once.ensures c.lexed_without_fault.ensures c.module_is_no_fault.ensures
