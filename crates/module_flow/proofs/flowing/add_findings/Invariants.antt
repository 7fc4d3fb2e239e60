use Rattle.std.proofs.Common.{◌≡◌, ◌++◌}
use Rattle.module_flow.proofs.flowing.add_findings.Given as goal

abbrev pub invariant-loop-finding : goal.invariant-loop-finding
invariant-loop-finding l = l.list ≡ l.fn.list ++ l.yielded
