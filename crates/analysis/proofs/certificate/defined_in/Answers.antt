use Rattle.std.proofs.Common.{◌++◌, [], ◌∷◌, length, map, sym, ap, ◌∙◌, subst}
use Rattle.std.specs.List.{list_all}
use Rattle.std.proofs.lemmas.Iterator.Adapters.{YieldsList-from_vec}
use Rattle.std.proofs.lemmas.Iterator.Consumers.{YieldsList-turn, YieldsList-end}
use Rattle.std.proofs.lemmas.List.{map-id}
use Rattle.core_ast.specs.Tree.{all_defs, module_tree}
use Rattle.core_scope.specs.Names.{defined_names}
use Rattle.cons_tree.specs.Callees.{found}
use Rattle.sound_laws.specs.Knowledge.{summary_of}
use Rattle.table_file.specs.Rules.{is_export}
use Rattle.table_keep.proofs.MadeLaws.{exported_among, fit_more}
use Rattle.table_verify_laws.specs.Certificates.{AreListed}
use Rattle.analysis_typings.specs.Typings.{HasSummary}
use Rattle.analysis.proofs.Certifying.{defined_is, fits_listed, listed_more, names_defined}
use Rattle.analysis.proofs.certificate.defined_in.Goals as goal

pub summary_in-requires : goal.summary_in-requires
summary_in-requires c =
    let into = c.into_iter-name-iterator.ensures.into_iter_gives in
    let runs = YieldsList-from_vec {s = c.into_iter-name-iterator.result} c.into_vec-name-items.result.items into.0 (into.1 ∙ c.into_vec-name-items.result.ok.0) in
    let turn = YieldsList-turn runs c.loop-name.yielded c.loop-name.name-iterator c.loop-name.yielded_by c.next.result c.next.new.self c.in-Some.name c.in-Some.is c.next.ensures.steps in
    let all = names_defined c.args.module.now.defs c.in_ok-function_names.field-0 (c.in_ok-function_names.ensures ∙ ap (map (λ d. d.name)) c.as_slice.ensures) in
    let among = exported_among (defined_names (all_defs c.args.module.now.defs)) c.in_ok-function_names.field-0 c.in_ok-names.names c.into_vec-name-items.result.items (length c.loop-name.yielded) c.in-Some.name
    c.into_vec-name-items.ensures c.in_ok-names.ensures all turn.0 turn.1 in
    subst HasSummary (sym c.find.ensures.value) (c.requires.known c.in-Some.name among)

pub loop-name-preserved : goal.loop-name-preserved
loop-name-preserved c =
    let into = c.into_iter-name-iterator.ensures.into_iter_gives in
    let runs = YieldsList-from_vec {s = c.into_iter-name-iterator.result} c.into_vec-name-items.result.items into.0 (into.1 ∙ c.into_vec-name-items.result.ok.0) in
    let turn = YieldsList-turn runs c.loop-name.yielded c.loop-name.name-iterator c.loop-name.yielded_by c.next.result c.next.new.self c.in-Some.name c.in-Some.is c.next.ensures.steps in
    let all = names_defined c.args.module.now.defs c.in_ok-function_names.field-0 (c.in_ok-function_names.ensures ∙ ap (map (λ d. d.name)) c.as_slice.ensures) in
    let among = exported_among (defined_names (all_defs c.args.module.now.defs)) c.in_ok-function_names.field-0 c.in_ok-names.names c.into_vec-name-items.result.items (length c.loop-name.yielded) c.in-Some.name
    c.into_vec-name-items.ensures c.in_ok-names.ensures all turn.0 turn.1 in
    let fits = fits_listed c.in-Some.name c.in_ok-summary.summary c.find.result.now (c.requires.small c.in-Some.name among) c.in_ok-summary.ensures c.find.ensures.fits in
    record {
      listed = subst (AreListed (found c.args.known.now) c.args.module.now.name (c.loop-name.yielded ++ c.in-Some.name ∷ [])) (sym c.in_ok-add.ensures.ok)
          (listed_more (found c.args.known.now) c.args.module.now.name c.loop-name.yielded c.loop-name.functions c.in-Some.name c.in_ok-summary.summary c.loop-name.invariant.listed
          (ap summary_of (sym c.find.ensures.value) ∙ c.in_ok-summary.ensures));
      fit = ap (list_all is_export) c.in_ok-add.ensures.ok ∙ fit_more c.loop-name.functions (c.in-Some.name, c.in_ok-summary.summary) c.loop-name.invariant.fit fits;
    }

pub returns-clause-listed : goal.returns-clause-listed
returns-clause-listed c =
    let into = c.into_iter-name-iterator.ensures.into_iter_gives in
    let runs = YieldsList-from_vec {s = c.into_iter-name-iterator.result} c.into_vec-name-items.result.items into.0 (into.1 ∙ c.into_vec-name-items.result.ok.0) in
    let end = YieldsList-end runs c.loop-name.yielded c.loop-name.name-iterator c.loop-name.yielded_by c.next.result c.next.new.self c.in-None.is c.next.ensures.steps in
    let all = defined_is (module_tree c.args.module.now) c.in_ok-function_names.field-0 c.in_ok-names.names c.in_ok-names.ensures
    (names_defined c.args.module.now.defs c.in_ok-function_names.field-0 (c.in_ok-function_names.ensures ∙ ap (map (λ d. d.name)) c.as_slice.ensures)) in
    subst (λ fs. AreListed (found c.args.known.now) c.args.module.now.name fs c.loop-name.functions)
    (sym (map-id c.loop-name.yielded) ∙ end.0 ∙ c.into_vec-name-items.ensures ∙ all) c.loop-name.invariant.listed
