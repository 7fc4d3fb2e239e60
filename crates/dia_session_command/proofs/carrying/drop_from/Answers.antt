use Rattle.std.proofs.Common.{sym, ap, ◌∙◌}
use Rattle.dia_session_engine.specs.Held.{held_by}
use Rattle.dia_session_command.proofs.LineExits.{is_dropped, is_not_there}
use Rattle.dia_session_command.proofs.carrying.drop_from.Goals as goal

pub returns-then-drop_file : goal.returns-then-drop_file
returns-then-drop_file c =
    is_dropped (held_by c.args.engine.now) (held_by c.drop_file.new.self) c.args.file.now c.ok_line.result (sym c.drop_file.ensures.there ∙ c.if-drop_file.true) c.drop_file.ensures.held c.ok_line.ensures

pub returns-else-drop_file : goal.returns-else-drop_file
returns-else-drop_file c =
    is_not_there (held_by c.args.engine.now) (held_by c.drop_file.new.self) c.args.file.now c.not_there_line.result (sym c.drop_file.ensures.there ∙ c.if-drop_file.false)
    (ap held_by (c.drop_file.ensures.stays c.if-drop_file.false)) c.not_there_line.ensures
