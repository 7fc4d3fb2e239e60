use Rattle.std.proofs.Common.{◌++◌, [], ◌∷◌, length, sym, ap, ◌∙◌, subst}
use Rattle.std.specs.List.{list_all}
use Rattle.std.proofs.lemmas.Iterator.Adapters.{YieldsList-from_vec}
use Rattle.std.proofs.lemmas.Iterator.Consumers.{YieldsList-turn, YieldsList-end}
use Rattle.std.proofs.lemmas.List.{map-id}
use Rattle.core_ast.specs.Tree.{module_tree}
use Rattle.cons_tree.specs.Callees.{found}
use Rattle.table_file.specs.Rules.{is_export}
use Rattle.table_keep.specs.Made.{AreSummarized}
use Rattle.table_keep.proofs.MadeLaws.{exported_among, exported_is, fit_more, fits_export, summarized_more}
use Rattle.table_keep.proofs.made.exports_from.Goals as goal

pub known_summary-requires : goal.known_summary-requires
known_summary-requires c =
    let into = c.into_iter-name-iterator.ensures.into_iter_gives in
    let runs = YieldsList-from_vec {s = c.into_iter-name-iterator.result} c.into_vec-name-items.result.items into.0 (into.1 ∙ c.into_vec-name-items.result.ok.0) in
    let turn = YieldsList-turn runs c.loop-name.yielded c.loop-name.name-iterator c.loop-name.yielded_by c.next.result c.next.new.self c.in-Some.name c.in-Some.is c.next.ensures.steps in
    let among = exported_among c.args.module.now.exports c.in_ok-names.names c.in_ok-names-2.names c.into_vec-name-items.result.items (length c.loop-name.yielded) c.in-Some.name
    c.into_vec-name-items.ensures c.in_ok-names-2.ensures (c.in_ok-names.ensures ∙ c.as_slice.ensures) turn.0 turn.1 in
    let is = c.requires.known c.in-Some.name among in
    (is.0, c.find.ensures.value ∙ is.1)

pub loop-name-preserved : goal.loop-name-preserved
loop-name-preserved c =
    let into = c.into_iter-name-iterator.ensures.into_iter_gives in
    let runs = YieldsList-from_vec {s = c.into_iter-name-iterator.result} c.into_vec-name-items.result.items into.0 (into.1 ∙ c.into_vec-name-items.result.ok.0) in
    let turn = YieldsList-turn runs c.loop-name.yielded c.loop-name.name-iterator c.loop-name.yielded_by c.next.result c.next.new.self c.in-Some.name c.in-Some.is c.next.ensures.steps in
    let among = exported_among c.args.module.now.exports c.in_ok-names.names c.in_ok-names-2.names c.into_vec-name-items.result.items (length c.loop-name.yielded) c.in-Some.name
    c.into_vec-name-items.ensures c.in_ok-names-2.ensures (c.in_ok-names.ensures ∙ c.as_slice.ensures) turn.0 turn.1 in
    let fits = fits_export c.in-Some.name c.in_ok-summary.summary c.find.result.now (c.requires.small c.in-Some.name among) c.in_ok-summary.ensures c.find.ensures.fits in
    record {
      summarized = subst (AreSummarized (found c.args.known.now) c.args.module.now.name (c.loop-name.yielded ++ c.in-Some.name ∷ [])) (sym c.in_ok-add.ensures.ok)
          (summarized_more (found c.args.known.now) c.args.module.now.name c.loop-name.yielded c.loop-name.exports c.in-Some.name c.in_ok-summary.summary
          c.loop-name.invariant.summarized (sym c.find.ensures.value ∙ c.in_ok-summary.ensures));
      fit = ap (list_all is_export) c.in_ok-add.ensures.ok ∙ fit_more c.loop-name.exports (c.in-Some.name, c.in_ok-summary.summary) c.loop-name.invariant.fit fits;
    }

pub returns-clause-summarized : goal.returns-clause-summarized
returns-clause-summarized c =
    let into = c.into_iter-name-iterator.ensures.into_iter_gives in
    let runs = YieldsList-from_vec {s = c.into_iter-name-iterator.result} c.into_vec-name-items.result.items into.0 (into.1 ∙ c.into_vec-name-items.result.ok.0) in
    let end = YieldsList-end runs c.loop-name.yielded c.loop-name.name-iterator c.loop-name.yielded_by c.next.result c.next.new.self c.in-None.is c.next.ensures.steps in
    let all = exported_is (module_tree c.args.module.now) c.in_ok-names.names c.in_ok-names-2.names c.in_ok-names-2.ensures (c.in_ok-names.ensures ∙ c.as_slice.ensures) in
    subst (λ fs. AreSummarized (found c.args.known.now) c.args.module.now.name fs c.loop-name.exports)
    (sym (map-id c.loop-name.yielded) ∙ end.0 ∙ c.into_vec-name-items.ensures ∙ all) c.loop-name.invariant.summarized
