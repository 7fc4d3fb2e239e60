use Rattle.std.proofs.Common.{◌≡◌, ◌↔◌, ℕ, None, sym, ap, ◌∙◌, subst}
use Rattle.std.proofs.lemmas.Result.{on_ok_weaker}
use Rattle.indexmap.specs.IndexMap.{keys}
use Rattle.components.specs.Graph.{Leads}
use Rattle.table_keep.specs.Kept.{calls_by}
use Rattle.table_keep.specs.Lists.{found_at}
use Rattle.table_keep.specs.Model.{entries_so, sources_so}
use Rattle.table_keep.specs.steps.Named.{IsNamed}
use Rattle.table_keep.proofs.CallPairs.{With}
use Rattle.table_keep.proofs.GraphLaws.{called_by_entry, called_by_source, no_option}
use Rattle.table_keep.proofs.module_graph.add_calls_at.Goals as goal

pub returns-in-Some-clause-pairs : goal.returns-in-Some-clause-pairs
returns-in-Some-clause-pairs c =
    let p = c.args.positions in
    let is = called_by_source c.args.sources.now c.in-Some.at c.index-sources-at.result p.source (found_at (entries_so c.args.table.now) p.entry) c.in-Some.is c.requires.source c.index-sources-at.is in
    on_ok_weaker c.add_calls_by.result (λ pairs.
    subst (λ l. (i j : ℕ) → Leads c.add_calls_by.new.graph i j ↔ With c.args.graph.now c.args.from (IsNamed (keys c.args.found.now) l) i j) (sym is) pairs) c.add_calls_by.ensures.pairs

pub returns-in-Some-entry-clause-pairs : goal.returns-in-Some-entry-clause-pairs
returns-in-Some-entry-clause-pairs c =
    let p = c.args.positions in
    let none : p.source ≡ None = no_option p.source c.in_default.not-Some in
    let is : calls_by (found_at (sources_so c.args.sources.now) p.source) (found_at (entries_so c.args.table.now) p.entry) ≡ c.as_slice.result.now =
    ap (λ r. calls_by (found_at (sources_so c.args.sources.now) r) (found_at (entries_so c.args.table.now) p.entry)) none
    ∙ called_by_entry c.args.table.now c.in-Some-entry.at c.at-entry.result.now p.entry c.in-Some-entry.is c.at-entry.ensures ∙ sym c.as_slice.ensures in
    on_ok_weaker c.add_calls.result (λ pairs.
    subst (λ l. (i j : ℕ) → Leads c.add_calls.new.graph i j ↔ With c.args.graph.now c.args.from (IsNamed (keys c.args.found.now) l) i j) (sym is) pairs) c.add_calls.ensures.pairs
