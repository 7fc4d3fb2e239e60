use Rattle.analysis_sources.specs.Words.{texts}
use Rattle.table_verify_command.proofs.JudgeExits.{dropped}
use Rattle.table_verify_command.proofs.making.plan_of.Goals as goal

pub returns : goal.returns
returns g c = dropped (texts c.args.words.now) c.args.sources c.as_slice.result.now c.planned-plan.result c.as_slice.ensures c.planned-plan.ensures
