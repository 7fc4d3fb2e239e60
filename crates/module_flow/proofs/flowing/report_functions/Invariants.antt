use Rattle.std.proofs.Common.{drop}
use Rattle.module_flow_state.specs.steps.Walking.{world_of}
use Rattle.module_flow.proofs.Reporting.{ReportedTo}
use Rattle.module_flow.proofs.flowing.report_functions.Given as goal

abbrev pub invariant-loop-def : goal.invariant-loop-def
invariant-loop-def l = ReportedTo (world_of l.context) l.around l.defs (drop l.def-index l.defs) l.walker
