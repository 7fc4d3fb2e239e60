use Rattle.type_kinds.proofs.Results.{always}
use Rattle.analysis.proofs.solving.report_wave.Goals as goal

pub keep_reports-requires-clause-reported : goal.keep_reports-requires-clause-reported
keep_reports-requires-clause-reported g c = c.in_ok-report_on_all.ensures.reported

pub returns-clause-lines : goal.returns-clause-lines
returns-clause-lines g c = always c.keep_reports.result c.in_ok-report_on_all.ensures
