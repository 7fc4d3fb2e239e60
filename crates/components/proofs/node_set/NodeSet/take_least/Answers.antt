use Rattle.std.proofs.Common.{subst}
use Rattle.components.specs.Lists.{Ascending}
use Rattle.components.proofs.Sets.{sorted_is}
use Rattle.components.proofs.node_set.NodeSet.take_least.Goals as goal

pub returns-clause-sorted : goal.returns-clause-sorted
returns-clause-sorted c = subst Ascending c.self.view_is (sorted_is c.self.inside.nodes.keys c.self.invariant)
