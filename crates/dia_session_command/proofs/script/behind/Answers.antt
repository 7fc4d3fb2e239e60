use Rattle.dia_session_command.proofs.ScriptLines.{behind_so}
use Rattle.dia_session_command.proofs.script.behind.Goals as goal

pub returns : goal.returns
returns c = behind_so c.args.text.now c.args.word.now c.strip_prefix.result c.strip_prefix.ensures.cases
