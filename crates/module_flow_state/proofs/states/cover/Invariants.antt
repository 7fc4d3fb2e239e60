use Rattle.std.proofs.Common.{◌≡◌, drop}
use Rattle.module_flow_calls.specs.TypeLists.{joins}
use Rattle.module_flow_state.proofs.states.cover.Given as goal

abbrev pub invariant-loop-at : goal.invariant-loop-at
invariant-loop-at l = joins (drop l.at l.others) (drop l.at l.types) ≡ drop l.at l.others → joins l.others l.types ≡ l.others
