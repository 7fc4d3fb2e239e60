use Rattle.std.proofs.Common.{◌+◌, ◌∷◌, [], ◌++◌, cond, Some, take, sym, ap, ◌∙◌, subst}
use Rattle.std.proofs.lemmas.List.{take_all}
use Rattle.type_kinds.proofs.Lists.{contains_none, map_next}
use Rattle.table_keep.specs.Model.{entries_so, source_so, sources_so}
use Rattle.table_verify_rules.specs.steps.Asked.{KeepsAsked}
use Rattle.table_verify_rules.specs.steps.Leasts.{IsLeastBreaking}
use Rattle.table_verify_rules.specs.steps.Lesser.{lesser_name}
use Rattle.table_verify_rules.proofs.Leasts.{next_least}
use Rattle.table_verify_rules.proofs.Sources.{found_at}
use Rattle.table_verify_rules.proofs.entries.least_breaking.Goals as goal

pub loop-source-init : goal.loop-source-init
loop-source-init c = λ s has. absurd (contains_none s has)

pub loop-source-preserved : goal.loop-source-preserved
loop-source-preserved c =
    let ss = c.args.sources.now in let i = c.loop-source.source-index in let s = c.source-item.result in
    let T = entries_so c.args.table.now in let C = entries_so c.args.cert.now in let M = sources_so ss in
    let kept = c.in_ok-kept.ensures M (found_at ss c.requires.distinct i s c.loop-source-test.true c.source-item.is) in
    let name = ap (λ x. x.name) c.module.ensures in
    let least = c.in_ok-least.ensures ∙ ap (λ h. cond c.in_ok-kept.kept c.loop-source.least (lesser_name c.loop-source.least (Some h))) name in
    subst (λ xs. IsLeastBreaking c.args.rule T C M xs c.in_ok-least.least) (sym (map_next source_so ss i s c.loop-source-test.true c.source-item.is))
    (subst (IsLeastBreaking c.args.rule T C M (sources_so (take i ss) ++ source_so s ∷ [])) (sym least)
    (next_least (λ x. x.tree.name) (λ x. KeepsAsked c.args.rule T C M x.tree.name) (sources_so (take i ss)) (source_so s) c.in_ok-kept.kept kept c.loop-source.least c.loop-source.invariant))

pub returns : goal.returns
returns c =
    let ss = c.args.sources.now in
    subst (λ xs. IsLeastBreaking c.args.rule (entries_so c.args.table.now) (entries_so c.args.cert.now) (sources_so ss) (sources_so xs) c.loop-source.least)
    (take_all c.loop-source.source-index ss c.loop-source-test.false) c.loop-source.invariant
