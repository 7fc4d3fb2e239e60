use Rattle.analysis_sources.proofs.OneReading.{no_other, no_fault}
use Rattle.analysis_sources.proofs.laws.spelled_module_is_read.Goals as goal

pub returns-clause-no_other : goal.returns-clause-no_other
returns-clause-no_other c = λ most bytes ts x y s h k. no_other c.lexed_once.ensures c.first_fault_once.ensures c.lexed_without_fault.ensures c.refused_once.ensures c.module_is_no_fault.ensures c.first_break_once.ensures s h k

pub returns-clause-no_fault : goal.returns-clause-no_fault
returns-clause-no_fault c = λ most bytes ts x fault s h sound k. no_fault c.lexed_once.ensures c.first_fault_once.ensures c.lexed_without_fault.ensures c.refused_once.ensures c.module_is_no_fault.ensures c.first_break_once.ensures s h
    sound k
