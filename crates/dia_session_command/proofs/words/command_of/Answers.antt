use Rattle.std.proofs.Common.{[]}
use Rattle.dia_session_command.proofs.WordExits.{three_so}
use Rattle.dia_session_command.proofs.words.command_of.Goals as goal

pub returns-in-Some : goal.returns-in-Some
returns-in-Some c =
    three_so c.args.words.now (record { ref_ptr = (0, 0); now = [] }) c.in-Some.workers c.with_script-in-Some.result c.in-len3.len_at_least c.in-len3.len_below c.if-ne.ensures c.in-Some.ensures
    c.with_script-in-Some.ensures
