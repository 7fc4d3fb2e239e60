use Rattle.comp_rounds.proofs.Gathering.{calls_are}
use Rattle.comp_rounds.proofs.calls.calls_of.Goals as goal

pub returns : goal.returns
returns c =
    calls_are c.args.members.now c.in_ok-calls.calls c.in_ok-calls.ensures.few c.in_ok-calls.ensures.count c.in_ok-calls.ensures.flags
    c.in_ok-calls.ensures.callers c.in_ok-calls.ensures.last
