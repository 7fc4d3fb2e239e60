use Rattle.analysis_answers.proofs.ReportsJoined.{joined_round, joined_end}
use Rattle.analysis_answers.proofs.lines.joined.Goals as goal

pub loop-report-preserved : goal.loop-report-preserved
loop-report-preserved c =
    joined_round c.args.reports.now c.loop-report.report-index c.report-item.result c.as_slice.result.now c.loop-report.output c.append.new.self c.loop-report-test.true c.report-item.is c.as_slice.ensures c.in_ok-append.ensures.ok
    c.loop-report.invariant

pub returns : goal.returns
returns c = joined_end c.args.reports.now c.loop-report.report-index c.loop-report.output c.loop-report-test.false c.loop-report.invariant
