use Rattle.type_lattice_trees.proofs.Plains.{flags_below}
use Rattle.type_lattice_trees.proofs.plain.FlagSet.leq.Goals as goal

pub returns : goal.returns
returns c = flags_below c.join.result c.args.self.now c.args.other.now c.eq.result c.join.ensures c.eq.ensures
