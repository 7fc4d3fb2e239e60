use Rattle.std.proofs.Common.{◌≡◌, subst, sym, arith}
use Rattle.std.proofs.lemmas.Grind.{common_steps}
use Rattle.components.specs.Lists.{Ascending}
use Rattle.components.proofs.Sets.{sorted_is}
use Rattle.components.proofs.node_set.NodeSet.into_list.Goals as goal

pub returns-clause-sorted : goal.returns-clause-sorted
returns-clause-sorted c =
    let is : c.loop-least.list ≡ c.self.inside.nodes.keys = grind (arith, common_steps) in
    subst Ascending (sym is) (sorted_is c.self.inside.nodes.keys c.self.invariant)
