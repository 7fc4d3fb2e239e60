use Rattle.std.proofs.Common.{take}
use Rattle.table_keep.specs.Model.{entries_so, sources_so}
use Rattle.table_verify_rules.specs.steps.Leasts.{IsLeastBreaking}
use Rattle.table_verify_rules.proofs.entries.least_breaking.Given as goal

abbrev pub invariant-loop-source : goal.invariant-loop-source
invariant-loop-source l = IsLeastBreaking l.rule (entries_so l.table) (entries_so l.cert) (sources_so l.sources) (sources_so (take l.source-index l.sources)) l.least
