use Rattle.std.proofs.Common.{inl, arith}
use Rattle.dia_session_command.specs.Session.{too_many_bytes}
use Rattle.dia_session_command.proofs.session.read_script.Goals as goal

pub returns-then-len-gt-LONGEST_SOURCE-clause-read : goal.returns-then-len-gt-LONGEST_SOURCE-clause-read
returns-then-len-gt-LONGEST_SOURCE-clause-read g c =
    let long = c.if-len-gt-LONGEST_SOURCE.true in
    inl (too_many_bytes c.in-Ok.bytes.items c.in_ok-answer-in-Ok.ensures.status c.in_ok-answer-in-Ok.ensures.output c.in-Ok.ensures.read (omega arith))
