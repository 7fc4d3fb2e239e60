use Rattle.dia_session_command.proofs.ScriptLines.{line_none}
use Rattle.dia_session_command.proofs.script.first_line.Goals as goal

pub returns-in-None : goal.returns-in-None
returns-in-None c = line_none c.args.bytes.now c.in-Some.end c.in-Some.ensures c.in-None.ensures
