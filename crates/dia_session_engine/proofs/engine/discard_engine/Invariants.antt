use Rattle.std.proofs.Common.{length}
use Rattle.dia_session_engine.proofs.engine.discard_engine.Given as goal

abbrev pub decreases-loop-source : goal.decreases-loop-source
decreases-loop-source l = length l.sources.items
