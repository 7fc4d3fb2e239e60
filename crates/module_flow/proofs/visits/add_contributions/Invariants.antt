use Rattle.std.proofs.Common.{◌≡◌, ◌++◌}
use Rattle.module_flow.proofs.visits.add_contributions.Given as goal

abbrev pub invariant-loop-contribution : goal.invariant-loop-contribution
invariant-loop-contribution l = l.list ≡ l.fn.list ++ l.yielded
