use Rattle.std.proofs.Common.{[], ap, ◌∙◌}
use Rattle.std.proofs.lemmas.Result.{IfOk-weaker}
use Rattle.std.proofs.lemmas.List.{take_all}
use Rattle.type_kinds_sets.specs.Ascending.{merged}
use Rattle.type_kinds_sets.specs.Names.{name_cmp}
use Rattle.table_keep.specs.Model.{sources_so}
use Rattle.table_verify_laws.specs.Lined.{AreModuleNames}
use Rattle.table_verify_rules.proofs.Sources.{merged_names, names_of}
use Rattle.table_verify_rules.proofs.names.module_names.Goals as goal

pub returns : goal.returns
returns c =
    IfOk-weaker c.once_each.result _ (AreModuleNames (sources_so c.args.sources.now))
    (λ names e. merged_names c.args.sources.now names (e ∙ ap (merged name_cmp []) (c.loop-source.invariant ∙ ap names_of (take_all c.loop-source.source-index c.args.sources.now c.loop-source-test.false))))
    c.once_each.ensures
