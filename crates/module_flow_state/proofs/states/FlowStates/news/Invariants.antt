use Rattle.std.proofs.Common.{drop}
use Rattle.module_flow_state.proofs.TakenBefore.{TakenSoFar}
use Rattle.module_flow_state.proofs.states.FlowStates.news.Given as goal

abbrev pub invariant-loop-contribution : goal.invariant-loop-contribution
invariant-loop-contribution l = TakenSoFar l.self l.news (drop l.contribution-index l.contributions) l.contributions
