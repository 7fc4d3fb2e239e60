use Rattle.fun_flow_sets.proofs.RuleLaws.{captured}
use Rattle.fun_flow_sets.proofs.rules.captured_keep_places.Goals as goal

pub returns : goal.returns
returns c = record { captured = λ U home label xs sc y h. captured U home label xs sc y h }
