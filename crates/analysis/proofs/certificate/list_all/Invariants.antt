use Rattle.std.proofs.Common.{map}
use Rattle.cons_tree.specs.Callees.{found}
use Rattle.table_keep.specs.Model.{entry_so, sources_so}
use Rattle.table_verify_laws.specs.Certificates.{EachListsAll}
use Rattle.analysis.proofs.certificate.list_all.Given as goal

abbrev pub invariant-loop-entry : goal.invariant-loop-entry
invariant-loop-entry l = EachListsAll (found l.known) (sources_so l.sources) (map entry_so l.yielded) (map entry_so l.listed)
