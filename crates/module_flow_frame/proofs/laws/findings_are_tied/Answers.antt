use Rattle.module_flow_frame.proofs.TiedCalls.{findings_tied, lines_tied}
use Rattle.module_flow_frame.proofs.laws.findings_are_tied.Goals as goal

pub returns-clause-findings : goal.returns-clause-findings
returns-clause-findings c callees x = findings_tied callees x

pub returns-clause-lines : goal.returns-clause-lines
returns-clause-lines c callees x bytes h = lines_tied callees x bytes h
