use Rattle.std.proofs.Common.{subst}
use Rattle.dia_session_command.specs.steps.Ending.{IsScriptRead}
use Rattle.dia_session_command.proofs.SessionExits.{ends_since, says_script, script_is_read}
use Rattle.dia_session_command.proofs.session.run.Goals as goal

pub carry_script-requires-clause-read : goal.carry_script-requires-clause-read
carry_script-requires-clause-read g c κs within =
    script_is_read (g.F.Shelf.held c.args.shelf.now) (g.F.Shelf.held c.read_script.new.shelf) c.args.command.script.now c.in-Ok-Reads.bytes.items c.as_slice.result.now c.in-Ok-Reads.ensures.held
    c.as_slice.ensures.value
    (subst (IsScriptRead (g.F.Shelf.held c.args.shelf.now) c.args.command.script.now c.args.command.word (g.F.Shelf.read_faults c.args.shelf.now) (g.F.Shelf.read_faults c.read_script.new.shelf))
    c.in-Ok-Reads.field-0-is c.in-Ok-Reads.ensures.read)

pub returns-in-Ok-Reads-clause-ends : goal.returns-in-Ok-Reads-clause-ends
returns-in-Ok-Reads-clause-ends g c =
    ends_since (g.F.Shelf.held c.args.shelf.now) c.args.command.script.now c.args.command.word (g.F.Shelf.read_faults c.args.shelf.now) (g.F.Shelf.read_faults c.read_script.new.shelf)
    (g.F.Shelf.read_faults c.carry_script.new.shelf) (g.K.Sink.faults c.args.out.now) (g.K.Sink.faults c.carry_script.new.out) (g.K.Sink.written c.args.out.now) (g.K.Sink.written c.carry_script.new.out)
    c.carry_script.result c.in-Ok-Reads.ensures.counted (g.F.Shelf.held c.read_script.new.shelf) c.in-Ok-Reads.ensures.held c.carry_script.ensures.ends

pub returns-in-Ok-Says-clause-ends : goal.returns-in-Ok-Says-clause-ends
returns-in-Ok-Says-clause-ends g c =
    says_script (g.F.Shelf.held c.args.shelf.now) c.args.command.script.now c.args.command.word (g.F.Shelf.read_faults c.args.shelf.now) (g.F.Shelf.read_faults c.read_script.new.shelf)
    (g.K.Sink.faults c.args.out.now) (g.K.Sink.faults c.say.new.out) (g.K.Sink.written c.args.out.now) (g.K.Sink.written c.say.new.out) c.in-Ok-Says.answer c.say.result
    (subst (IsScriptRead (g.F.Shelf.held c.args.shelf.now) c.args.command.script.now c.args.command.word (g.F.Shelf.read_faults c.args.shelf.now) (g.F.Shelf.read_faults c.read_script.new.shelf))
    c.in-Ok-Says.field-0-is c.in-Ok-Says.ensures.read)
    c.say.ensures
