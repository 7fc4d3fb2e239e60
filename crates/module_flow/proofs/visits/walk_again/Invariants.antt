use Rattle.std.proofs.Common.{drop}
use Rattle.module_flow_state.specs.steps.Changes.{rounds_of}
use Rattle.module_flow.specs.steps.Visits.{contributions_again, visits_again}
use Rattle.module_flow_state.specs.steps.Walking.{world_of}
use Rattle.module_flow.proofs.Candidates.{IsWalked}
use Rattle.module_flow.proofs.visits.walk_again.Given as goal

abbrev pub invariant-loop-candidate : goal.invariant-loop-candidate
invariant-loop-candidate l =
    IsWalked (world_of l.context) (rounds_of l.changes) l.round l.defs (contributions_again (world_of l.context) (rounds_of l.changes) l.round l.defs l.fn.visits)
    (visits_again (world_of l.context) (rounds_of l.changes) l.round l.defs l.fn.visits)
    l.visits l.contributions l.from (drop l.candidate-index l.positions)
