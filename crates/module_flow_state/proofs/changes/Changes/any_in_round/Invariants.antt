use Rattle.std.proofs.Common.{◌≡◌, drop}
use Rattle.std.specs.List.{list_any}
use Rattle.module_flow_state.specs.steps.Changes.{in_round}
use Rattle.module_flow_state.proofs.changes.Changes.any_in_round.Given as goal

abbrev pub invariant-loop-label : goal.invariant-loop-label
invariant-loop-label l =
    list_any (in_round l.self.rounds l.round) (drop l.label-index l.labels) ≡ list_any (in_round l.self.rounds l.round) l.labels
