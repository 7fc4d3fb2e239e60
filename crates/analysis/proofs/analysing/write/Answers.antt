use Rattle.std.proofs.Common.{IsTrue, sym, ◌∙◌, subst}
use Rattle.std.proofs.lemmas.List.{length-map}
use Rattle.cons_tree.specs.Callees.{found}
use Rattle.table_file.specs.Order.{rises, is_name_before}
use Rattle.table_keep.specs.Model.{entries_so, source_so, sources_so}
use Rattle.analysis.specs.steps.Keyed.{entry_at}
use Rattle.analysis.proofs.Ends.{are_open, written}
use Rattle.analysis.proofs.Handed.{are_sources}
use Rattle.analysis.proofs.Storing.{stored_names}
use Rattle.analysis.proofs.analysing.write.Goals as goal

pub new_entries-requires-clause-counted : goal.new_entries-requires-clause-counted
new_entries-requires-clause-counted c = c.requires.decided.decided.counted ∙ length-map c.args.sources.now source_so

pub new_entries-requires-clause-open : goal.new_entries-requires-clause-open
new_entries-requires-clause-open c =
    are_open (entries_so c.args.table.now) (sources_so c.args.sources.now) (are_sources c.args.sources.now c.requires.distinct) (found c.args.decided.now.known) c.args.decided.now.changed c.args.decided.now.lines
    c.requires.decided

pub returns : goal.returns
returns c =
    written (entries_so c.args.table.now) (sources_so c.args.sources.now) (are_sources c.args.sources.now c.requires.distinct) (found c.args.decided.now.known) c.args.decided.now.changed c.args.decided.now.lines
    c.requires.decided (entry_at c.in_ok-entries.entries.by_name) c.in_ok-entries.ensures (entries_so c.in_ok-table.table) c.in_ok-reports.reports c.in_ok-table.ensures
    (subst (λ ns. IsTrue (rises is_name_before ns)) (sym (stored_names c.in_ok-table.table.entries)) c.in_ok-table.table.entries_rise)
    c.in_ok-reports.ensures
