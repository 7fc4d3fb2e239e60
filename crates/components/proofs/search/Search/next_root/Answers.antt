use Rattle.std.proofs.Common.{arith}
use Rattle.components.proofs.Steps.{no_path}
use Rattle.components.proofs.search.Search.next_root.Goals as goal

pub returns-clause-end : goal.returns-clause-end
returns-clause-end c = (no_path _ _ _ _ _ _ _ c.loop-self.invariant.0 c.loop-self.invariant.2, omega arith)
