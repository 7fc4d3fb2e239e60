use Rattle.std.proofs.Common.{take}
use Rattle.std.specs.List.{AllZip}
use Rattle.fun_flow_applied.specs.steps.Calls.{IsCallOf}
use Rattle.fun_flow_applied.proofs.calls.calls_of.Given as goal

abbrev pub invariant-loop-application : goal.invariant-loop-application
invariant-loop-application l = AllZip (IsCallOf l.texts l.sets) (take l.application-index l.found) l.calls
