use Rattle.std.proofs.Common.{◌+◌, sym, ap, ◌∙◌, drop}
use Rattle.std.proofs.lemmas.List.{drop_all}
use Rattle.type_kinds.proofs.Lists.{drop_next}
use Rattle.cons_tree.specs.Callees.{found}
use Rattle.table_keep.specs.Model.{entries_so, sources_so}
use Rattle.table_verify_rules.specs.steps.Knowing.{with_entries_of}
use Rattle.table_verify_rules.proofs.Entered.{all_entered}
use Rattle.table_verify_rules.proofs.Sources.{handed, names_of, names_so}
use Rattle.table_verify_rules.proofs.knowing.enter_all.Goals as goal

pub loop-source-init : goal.loop-source-init
loop-source-init c =
    let ss = c.args.sources.now in
    ap (with_entries_of (entries_so c.args.cert.now) (sources_so ss)) c.in_ok-close_modules.ensures
    ∙ all_entered (entries_so c.args.cert.now) (sources_so ss) (handed ss c.requires.distinct).distinct (found c.args.known.now) c.requires.unknown (names_of ss) (names_so ss)

pub loop-source-preserved : goal.loop-source-preserved
loop-source-preserved c =
    let ss = c.args.sources.now in let i = c.loop-source.source-index in
    ap (with_entries_of (entries_so c.args.cert.now) (sources_so (drop (i + 1) ss))) c.in_ok-enter_module.ensures
    ∙ ap (λ xs. with_entries_of (entries_so c.args.cert.now) (sources_so xs) (found c.loop-source.known)) (sym (drop_next ss i c.source-item.result c.loop-source-test.true c.source-item.is))
    ∙ c.loop-source.invariant

pub returns : goal.returns
returns c =
    let ss = c.args.sources.now in
    ap (λ xs. with_entries_of (entries_so c.args.cert.now) (sources_so xs) (found c.loop-source.known)) (sym (drop_all c.loop-source.source-index ss c.loop-source-test.false)) ∙ c.loop-source.invariant
