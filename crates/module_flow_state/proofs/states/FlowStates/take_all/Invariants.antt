use Rattle.std.proofs.Common.{◌≡◌, drop}
use Rattle.module_flow_state.specs.States.{takes}
use Rattle.module_flow_state.specs.steps.Changes.{MoreChanges, Noted, rounds_of}
use Rattle.module_flow_state.proofs.states.FlowStates.take_all.Given as goal

abbrev pub invariant-loop-contribution : goal.invariant-loop-contribution
invariant-loop-contribution l = record {
  after : takes l.self (drop l.contribution-index l.contributions) ≡ takes l.fn.self l.contributions;
  noted : Noted l.fn.self l.self (rounds_of l.fn.changes) (rounds_of l.changes) l.next l.changed;
  more : MoreChanges l.fn.changes l.changes l.next;
}
