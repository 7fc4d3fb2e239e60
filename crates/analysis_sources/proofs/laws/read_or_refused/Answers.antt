use Rattle.analysis_sources.proofs.SomeReading.{read_or_refused}
use Rattle.analysis_sources.proofs.laws.read_or_refused.Goals as goal

pub returns : goal.returns
returns c = read_or_refused c.module_or_fault.ensures
