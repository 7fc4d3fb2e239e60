use Rattle.std.proofs.Common.{◌≡◌, drop}
use Rattle.cons_tree.specs.Callees.{found}
use Rattle.table_keep.specs.Model.{entries_so, sources_so}
use Rattle.table_verify_laws.specs.Listed.{known_by}
use Rattle.table_verify_rules.specs.steps.Knowing.{with_entries_of}
use Rattle.table_verify_rules.proofs.knowing.enter_all.Given as goal

abbrev pub invariant-loop-source : goal.invariant-loop-source
invariant-loop-source l =
    with_entries_of (entries_so l.cert) (sources_so (drop l.source-index l.sources)) (found l.known) ≡ known_by (entries_so l.cert) (sources_so l.sources)
