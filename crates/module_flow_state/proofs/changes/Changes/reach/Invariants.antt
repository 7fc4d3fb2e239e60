use Rattle.std.proofs.Common.{◌≡◌, ◌++◌, replicate}
use Rattle.module_flow_state.proofs.changes.Changes.reach.Given as goal

abbrev pub invariant-loop-at : goal.invariant-loop-at
invariant-loop-at l = record {
  rounds : l.self.rounds ≡ l.fn.self.rounds ++ replicate l._at 0;
  latest : l.self.latest ≡ l.fn.self.latest;
}
