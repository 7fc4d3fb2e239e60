use Rattle.std.proofs.Common.{◌≡◌, Some, slice_get}
use Rattle.std.proofs.lemmas.Result.{on_ok_weaker}
use Rattle.indexmap.specs.IndexMap.{keys}
use Rattle.table_keep.specs.Kept.{calls_by, calls_of}
use Rattle.table_keep.specs.Lists.{found_at}
use Rattle.table_keep.specs.Model.{entries_so, sources_so}
use Rattle.table_keep.specs.steps.Candidates.{entry_names, source_names, standing}
use Rattle.table_keep.specs.steps.Named.{IsNamed, NameLeads}
use Rattle.table_keep.proofs.CallPairs.{same_pairs}
use Rattle.table_keep.proofs.GraphLaws.{leads_from, position_entry, position_source}
use Rattle.table_keep.proofs.module_graph.add_calls_of.Goals as goal

pub add_calls_at-requires-clause-source : goal.add_calls_at-requires-clause-source
add_calls_at-requires-clause-source c =
    let h = c.in-Some.field-0-0.now in
    let told : standing (source_names c.args.sources.now) (entry_names c.args.table.now.entries) h ≡ Some c.in-Some.positions.now = (let s = c.requires.standing h in cc c.in-Some.ensures.value) in
    position_source c.args.table.now c.args.sources.now h c.in-Some.positions.now told

pub add_calls_at-requires-clause-entry : goal.add_calls_at-requires-clause-entry
add_calls_at-requires-clause-entry c =
    let h = c.in-Some.field-0-0.now in
    let told : standing (source_names c.args.sources.now) (entry_names c.args.table.now.entries) h ≡ Some c.in-Some.positions.now = (let s = c.requires.standing h in cc c.in-Some.ensures.value) in
    position_entry c.args.table.now c.args.sources.now h c.in-Some.positions.now told

pub returns-clause-pairs : goal.returns-clause-pairs
returns-clause-pairs c =
    let h = c.in-Some.field-0-0.now in
    let p = c.in-Some.positions.now in
    let T = entries_so c.args.table.now in
    let M = sources_so c.args.sources.now in
    let told : standing (source_names c.args.sources.now) (entry_names c.args.table.now.entries) h ≡ Some p = (let s = c.requires.standing h in cc c.in-Some.ensures.value) in
    let there : Some (h, p) ≡ slice_get c.args.found.now.entries c.args.place = (cc c.in-Some.ensures.entry) in
    on_ok_weaker c.add_calls_at.result (same_pairs c.add_calls_at.new.graph c.args.graph.now c.args.place (IsNamed (keys c.args.found.now) (calls_by (found_at M p.source) (found_at T p.entry)))
    (NameLeads (keys c.args.found.now) (calls_of T M) c.args.place)
    (λ j. leads_from c.args.table.now c.args.sources.now h p told c.args.found.now.entries c.args.place j there)) c.add_calls_at.ensures.pairs
