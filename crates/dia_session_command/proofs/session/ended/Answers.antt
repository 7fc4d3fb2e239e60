use Rattle.analysis_sources.specs.Words.{texts}
use Rattle.analysis_answers.specs.declared.run_status.RunStatus.TheVariants.{Usage}
use Rattle.dia_session_command.specs.Words.{usage_line}
use Rattle.dia_session_command.specs.steps.Ending.{not_asked, of_script}
use Rattle.dia_session_command.proofs.SessionExits.{said_so, workers_fit}
use Rattle.dia_session_command.proofs.session.ended.Goals as goal

pub run-requires-clause-least : goal.run-requires-clause-least
run-requires-clause-least g c κs within = (workers_fit (texts c.args.words.now) c.in-Some.command.workers c.in-Some.command.script.now c.in-Some.command.word c.in-Some.ensures).0

pub run-requires-clause-most : goal.run-requires-clause-most
run-requires-clause-most g c κs within = (workers_fit (texts c.args.words.now) c.in-Some.command.workers c.in-Some.command.script.now c.in-Some.command.word c.in-Some.ensures).1

pub returns-in-Some-clause-ends : goal.returns-in-Some-clause-ends
returns-in-Some-clause-ends g c = of_script c.in-Some.command.script.now c.in-Some.command.word (c.in-Some.command.workers, c.in-Some.ensures) c.run.ensures.ends

pub returns-in-Ok-clause-ends : goal.returns-in-Ok-clause-ends
returns-in-Ok-clause-ends g c =
    not_asked c.in-None.ensures
    (said_so c.in-Ok.answer Usage c.say.result usage_line (g.K.Sink.faults c.args.out.now) (g.K.Sink.faults c.say.new.out) (g.K.Sink.written c.args.out.now) (g.K.Sink.written c.say.new.out)
    c.in-Ok.ensures.status c.in-Ok.ensures.output c.say.ensures)
