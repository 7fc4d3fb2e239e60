use Rattle.std.proofs.Common.{length}
use Rattle.analysis_sources.proofs.reading.discard_sources.Given as goal

abbrev pub decreases-loop-source : goal.decreases-loop-source
decreases-loop-source l = length l.sources
