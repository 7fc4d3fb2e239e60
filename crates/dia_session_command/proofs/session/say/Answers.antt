use Rattle.std.proofs.Common.{refl, ap, subst, ◌∙◌}
use Rattle.da_shelf.specs.Told.{appended, IsPrefixAppended}
use Rattle.dia_session_command.specs.steps.Ending.{whole, broken}
use Rattle.dia_session_command.proofs.session.say.Goals as goal

pub returns-in-Ok : goal.returns-in-Ok
returns-in-Ok g c = whole refl (c.in-Ok.ensures.all ∙ ap (appended (g.K.Sink.written c.args.out.now)) c.as_slice.ensures)

pub returns-in-Err-Failed : goal.returns-in-Err-Failed
returns-in-Err-Failed g c =
    broken refl c.in-Err-Failed.ensures.failed (subst (IsPrefixAppended (g.K.Sink.written c.args.out.now) (g.K.Sink.written c.give.new.out)) c.as_slice.ensures c.in-Err-Failed.ensures.front)
