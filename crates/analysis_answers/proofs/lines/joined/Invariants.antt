use Rattle.std.proofs.Common.{◌≡◌, ◌++◌, drop}
use Rattle.std.specs.List.{concat}
use Rattle.analysis_answers.proofs.lines.joined.Given as goal

abbrev pub invariant-loop-report : goal.invariant-loop-report
invariant-loop-report l = l.output ++ concat (drop l.report-index l.reports) ≡ concat l.reports
