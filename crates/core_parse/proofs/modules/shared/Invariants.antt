use Rattle.std.proofs.Common.{◌≡◌}
use Rattle.core_parse.proofs.modules.shared.Given as goal

abbrev pub invariant-loop-function : goal.invariant-loop-function
invariant-loop-function l = l.definitions ≡ l.yielded
