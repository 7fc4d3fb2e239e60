use Rattle.fun_flow_sets.proofs.Constants.{nothing_nowhere, anything_anywhere}
use Rattle.fun_flow_sets.proofs.sets.constants_stay.Goals as goal

pub returns-clause-nothing : goal.returns-clause-nothing
returns-clause-nothing c = nothing_nowhere

pub returns-clause-just_anything : goal.returns-clause-just_anything
returns-clause-just_anything c = anything_anywhere
