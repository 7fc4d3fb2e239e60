use Rattle.std.proofs.Common.{drop}
use Rattle.module_flow_state.specs.steps.Walking.{world_of}
use Rattle.module_flow.proofs.Reporting.{WalkedTo}
use Rattle.module_flow.proofs.rounds.walk_module.Given as goal

abbrev pub invariant-loop-def : goal.invariant-loop-def
invariant-loop-def l = WalkedTo (world_of l.context) l.around l.reporting l.defs (drop l.def-index l.defs) l.walker
