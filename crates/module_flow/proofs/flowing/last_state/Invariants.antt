use Rattle.std.proofs.Common.{◌≡◌, ◌<◌, ℕ}
use Rattle.core_ast.specs.Tree.{module_tree}
use Rattle.cons_tree.specs.Callees.{found}
use Rattle.module_flow.specs.Flow.{after_rounds}
use Rattle.module_flow.specs.steps.Visits.{AreCandidates, AreSettled}
use Rattle.module_flow_state.specs.steps.Changes.{NoneIn, rounds_of}
use Rattle.module_flow.proofs.flowing.last_state.Given as goal

abbrev pub invariant-loop-round : goal.invariant-loop-round
invariant-loop-round l = record {
  state : l.state ≡ after_rounds (found l.known) (module_tree l.source) l.round;
  settled : AreSettled (record { callee = found l.known; home = l.source.name; names = l.tops.names; labels = l.tops.labels; state = l.state }) (rounds_of l.changes) l.round l.source.defs l.visits;
  candidates : AreCandidates (rounds_of l.changes) l.round l.visits l.positions;
  entered_later : (n : ℕ) → l.round < n → NoneIn l.changes.entered.rounds n;
  given_later : (n : ℕ) → l.round < n → NoneIn l.changes.given.rounds n;
}
