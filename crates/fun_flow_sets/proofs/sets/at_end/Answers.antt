use Rattle.fun_flow_sets.proofs.Least.{complete_at_end, sound_at_end}
use Rattle.fun_flow_sets.proofs.sets.at_end.Goals as goal

pub returns-clause-sound : goal.returns-clause-sound
returns-clause-sound c = sound_at_end

pub returns-clause-complete : goal.returns-clause-complete
returns-clause-complete c = complete_at_end
