use Rattle.std.proofs.Common.{subst}
use Rattle.warn_list.specs.Lines.{AreLines}
use Rattle.module_flow.specs.Flow.{findings}
use Rattle.module_flow_frame.proofs.Called.{findings_frame, outside_frame}
use Rattle.module_flow_frame.proofs.laws.findings_rest_on_calls.Goals as goal

pub returns-clause-findings : goal.returns-clause-findings
returns-clause-findings c = findings_frame

pub returns-clause-lines : goal.returns-clause-lines
returns-clause-lines c x k d same one other a b =
    c.one_text.ensures x.name (findings d x) one other (subst (λ fs. AreLines x.name fs one) (findings_frame x k d same) a) b

pub returns-clause-outside : goal.returns-clause-outside
returns-clause-outside c = outside_frame
