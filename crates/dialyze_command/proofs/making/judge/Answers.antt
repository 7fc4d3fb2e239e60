use Rattle.std.proofs.Common.{map, refl, subst}
use Rattle.core_scope.specs.Checked.{module_of}
use Rattle.table_keep.specs.declared.source.Source.{Source as HandedIn}
use Rattle.analysis.specs.Reports.{IsSetFault}
use Rattle.dialyze_command.proofs.MakeExits.{counted_it, never_twins}
use Rattle.dialyze_command.proofs.making.judge.Goals as goal

pub unreachable-requires : goal.unreachable-requires
unreachable-requires g c =
    never_twins c.args.sources.now c.in-Err-Set.field-0-0 c.requires.names
    (subst (IsSetFault (map (λ (s : HandedIn). (module_of s.checked).name) c.args.sources.now)) c.in-Err-Set.field-0-is c.in-Err-Set.ensures.set)

pub returns-in-Ok : goal.returns-in-Ok
returns-in-Ok g c =
    counted_it c.args.sources.now c.empty-table.result c.in-Ok.analysis.table c.in-Ok.analysis.reports _ c.in-Ok.analysis.functions c.summary.result c.empty-table.ensures refl c.in-Ok.ensures.distinct c.in-Ok.ensures.written
    c.in-Ok.ensures.functions c.summary.ensures.status c.summary.ensures.output
