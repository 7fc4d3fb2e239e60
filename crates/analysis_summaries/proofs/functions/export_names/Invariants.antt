use Rattle.std.proofs.Common.{◌≡◌, ◌++◌, drop}
use Rattle.analysis_summaries.proofs.functions.export_names.Given as goal

abbrev pub invariant-loop-name : goal.invariant-loop-name
invariant-loop-name l = l.names ++ drop l.name-index l.exports ≡ l.exports
