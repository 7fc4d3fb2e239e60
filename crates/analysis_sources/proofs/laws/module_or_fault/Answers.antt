use Rattle.analysis_sources.proofs.SomeReading.{source_or_fault}
use Rattle.analysis_sources.proofs.laws.module_or_fault.Goals as goal

pub returns : goal.returns
returns c = source_or_fault c.lexed_or_fault.ensures c.tokens_are_decided.ensures c.a_first_break.ensures
