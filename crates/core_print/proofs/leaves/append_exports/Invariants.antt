use Rattle.std.proofs.Common.{true, drop}
use Rattle.core_print.specs.Canonical.{exports}
use Rattle.core_print.proofs.Adding.{Still}
use Rattle.core_print.proofs.leaves.append_exports.Given as goal

abbrev pub invariant-loop-name : goal.invariant-loop-name
invariant-loop-name l = Still (exports l.first (drop l.name-index l.names)) (exports true l.names) l.fn.out l.out
