use Rattle.std.proofs.Common.{◌≤◌, map, sym, subst, arith}
use Rattle.core_scope.specs.Checked.{module_of}
use Rattle.table_keep.specs.declared.source.Source.{Source as HandedIn}
use Rattle.analysis.specs.Reports.{IsSetFault}
use Rattle.analysis_sources.specs.Words.{texts}
use Rattle.dialyze_command.proofs.Places.{start_small, workers_so}
use Rattle.dialyze_command.proofs.PlanExits.{out_word, out_few, few_words, analysed_it, twins_it}
use Rattle.dialyze_command.proofs.plan.judged.Goals as goal

pub analyse-requires-clause-least : goal.analyse-requires-clause-least
analyse-requires-clause-least g c κs within = subst (λ n. 1 ≤ n) (sym c.worker_count.ensures) (workers_so c.requires.checks.check).0

pub analyse-requires-clause-most : goal.analyse-requires-clause-most
analyse-requires-clause-most g c κs within = subst (λ n. n ≤ 64) (sym c.worker_count.ensures) (workers_so c.requires.checks.check).1

pub made-requires-clause-within : goal.made-requires-clause-within
made-requires-clause-within g c = out_word c.args.words.now c.args.command c.requires.checks

pub made-requires-clause-few : goal.made-requires-clause-few
made-requires-clause-few g c = out_few c.args.words.now c.args.command c.requires.checks

pub overflow_cast-command : goal.overflow_cast-command
overflow_cast-command g c = omega (arith, start_small c.requires.checks.check)

pub twins-requires-clause-few : goal.twins-requires-clause-few
twins-requires-clause-few g c = few_words c.args.words.now c.args.command c.requires.checks

pub returns-in-Ok-clause-judged : goal.returns-in-Ok-clause-judged
returns-in-Ok-clause-judged g c =
    analysed_it (texts c.args.words.now) c.args.command c.args.table.now c.in-Ok.analysis.table c.args.sources.now c.in-Ok.analysis.reports c.made.result c.in-Ok.ensures.distinct c.in-Ok.ensures.written c.made.ensures.made

pub returns-in-Err-Set-clause-judged : goal.returns-in-Err-Set-clause-judged
returns-in-Err-Set-clause-judged g c =
    twins_it c.args.words.now c.args.command c.args.table.now c.args.sources.now c.in-Err-Set.fault c.first_of.result c.second_of.result c.twins.result c.requires.whole
    (subst (IsSetFault (map (λ (s : HandedIn). (module_of s.checked).name) c.args.sources.now)) c.in-Err-Set.field-0-is c.in-Err-Set.ensures.set) c.first_of.ensures c.second_of.ensures
    c.twins.ensures.status c.twins.ensures.output c.twins.ensures.table
