use Rattle.std.proofs.Common.{subst}
use Rattle.table_keep.specs.Model.{entries_so, sources_so}
use Rattle.table_verify_rules.specs.Rejected.{IsRejected}
use Rattle.table_verify_command.proofs.JudgeExits.{accepted_judged, rejected_judged}
use Rattle.table_verify_command.proofs.checking.verdict.Goals as goal

pub returns-in-Ok : goal.returns-in-Ok
returns-in-Ok c =
    accepted_judged (entries_so c.args.table.now) (entries_so c.args.cert.now) c.args.sources.now c.accepted.result c.requires c.in-Ok.ensures.accepted c.accepted.ensures.status c.accepted.ensures.output

pub returns-in-Err-Rejected : goal.returns-in-Err-Rejected
returns-in-Err-Rejected c =
    rejected_judged (entries_so c.args.table.now) (entries_so c.args.cert.now) c.args.sources.now c.in-Err-Rejected.number _ c.in-Err-Rejected.home _ c.rejected.result c.requires
    (subst (IsRejected (entries_so c.args.table.now) (entries_so c.args.cert.now) (sources_so c.args.sources.now)) c.in-Err-Rejected.field-0-is c.in-Err-Rejected.ensures.rejected)
    c.in-Err-Rejected.number-is c.in-Err-Rejected.home-is c.rejected.ensures.status c.rejected.ensures.output
