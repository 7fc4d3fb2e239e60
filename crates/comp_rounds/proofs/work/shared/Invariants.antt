use Rattle.std.proofs.Common.{◌≡◌}
use Rattle.comp_rounds.proofs.work.shared.Given as goal

abbrev pub invariant-loop-part : goal.invariant-loop-part
invariant-loop-part l = l.made ≡ l.yielded
