use Rattle.std.proofs.Common.{◌++◌, [], ◌∷◌, map, length, sym, ◌∙◌, subst}
use Rattle.std.proofs.lemmas.Iterator.Adapters.{YieldsList-from_vec}
use Rattle.std.proofs.lemmas.Iterator.Consumers.{YieldsList-turn, YieldsList-end}
use Rattle.std.proofs.lemmas.List.{map-id}
use Rattle.cons_tree.specs.Callees.{found}
use Rattle.table_keep.specs.Model.{entry_so, sources_so}
use Rattle.table_verify_laws.specs.Certificates.{EachListsAll}
use Rattle.analysis.proofs.Certifying.{entry_among, still_rise, stored_more}
use Rattle.analysis.proofs.certificate.list_all.Goals as goal

pub list_in-requires-clause-there : goal.list_in-requires-clause-there
list_in-requires-clause-there c =
    let into = c.into_iter-entry-iterator.ensures.into_iter_gives in
    let runs = YieldsList-from_vec {s = c.into_iter-entry-iterator.result} c.into_vec-entry-items.result.items into.0 (into.1 ∙ c.into_vec-entry-items.result.ok.0) in
    let turn = YieldsList-turn runs c.loop-entry.yielded c.loop-entry.entry-iterator c.loop-entry.yielded_by c.next.result c.next.new.self c.in-Some.entry c.in-Some.is c.next.ensures.steps in
    c.requires.there (entry_so c.in-Some.entry) (entry_among c.args.table.entries c.into_vec-entry-items.result.items (length c.loop-entry.yielded) c.in-Some.entry c.into_vec-entry-items.ensures turn.0 turn.1)

pub loop-entry-preserved : goal.loop-entry-preserved
loop-entry-preserved c =
    subst (λ cs. EachListsAll (found c.args.known.now) (sources_so c.args.sources.now) (map entry_so (c.loop-entry.yielded ++ c.in-Some.entry ∷ [])) (map entry_so cs)) (sym c.in_ok-add.ensures.ok)
    (stored_more (found c.args.known.now) (sources_so c.args.sources.now) c.loop-entry.yielded c.loop-entry.listed c.in-Some.entry c.in_ok-list_in.field-0 c.loop-entry.invariant c.in_ok-list_in.ensures)

pub invariant_of-result : goal.invariant_of-result
invariant_of-result c =
    let into = c.into_iter-entry-iterator.ensures.into_iter_gives in
    let runs = YieldsList-from_vec {s = c.into_iter-entry-iterator.result} c.into_vec-entry-items.result.items into.0 (into.1 ∙ c.into_vec-entry-items.result.ok.0) in
    let end = YieldsList-end runs c.loop-entry.yielded c.loop-entry.entry-iterator c.loop-entry.yielded_by c.next.result c.next.new.self c.in-None.is c.next.ensures.steps in
    record {
      entries_rise = still_rise (found c.args.known.now) (sources_so c.args.sources.now) c.args.table.entries c.loop-entry.listed
          (subst (λ es. EachListsAll (found c.args.known.now) (sources_so c.args.sources.now) (map entry_so es) (map entry_so c.loop-entry.listed))
          (sym (map-id c.loop-entry.yielded) ∙ end.0 ∙ c.into_vec-entry-items.ensures) c.loop-entry.invariant) c.args.table.entries_rise;
    }
