use Rattle.fun_flow_sets.proofs.Least.{are_least}
use Rattle.fun_flow_sets.proofs.sets.sets_are_least.Goals as goal

pub returns : goal.returns
returns c = record { least = are_least }
