use Rattle.analysis_sources.proofs.OneReading.{one_module, one_fault, never_both}
use Rattle.analysis_sources.proofs.laws.one_reading.Goals as goal

pub returns-clause-one_module : goal.returns-clause-one_module
returns-clause-one_module c = λ most bytes x y g h. one_module c.lexed_once.ensures c.first_fault_once.ensures c.lexed_without_fault.ensures c.refused_once.ensures c.module_is_no_fault.ensures c.first_break_once.ensures g h

pub returns-clause-one_fault : goal.returns-clause-one_fault
returns-clause-one_fault c = λ most bytes f g h k. one_fault c.lexed_once.ensures c.first_fault_once.ensures c.lexed_without_fault.ensures c.refused_once.ensures c.module_is_no_fault.ensures c.first_break_once.ensures h k

pub returns-clause-never_both : goal.returns-clause-never_both
returns-clause-never_both c = λ most bytes x fault g h. never_both c.lexed_once.ensures c.first_fault_once.ensures c.lexed_without_fault.ensures c.refused_once.ensures c.module_is_no_fault.ensures c.first_break_once.ensures g h
