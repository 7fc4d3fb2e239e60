use Rattle.std.proofs.Common.{codes}
use Rattle.dia_session_command.proofs.ScriptLines.{file_behind}
use Rattle.dia_session_command.proofs.script.line_of.Goals as goal

pub returns-in-Some-file_of : goal.returns-in-Some-file_of
returns-in-Some-file_of c =
    file_behind (codes "replace ") c.in-Some.name.now c.in-Some-file_of.file.now c.args.text.now c.in-Some.ensures c.requires c.in-Some-file_of.ensures

pub returns-in-Some-file_of-2 : goal.returns-in-Some-file_of-2
returns-in-Some-file_of-2 c =
    file_behind (codes "drop ") c.in-Some-behind.name.now c.in-Some-file_of-2.file.now c.args.text.now c.in-Some-behind.ensures c.requires c.in-Some-file_of-2.ensures
