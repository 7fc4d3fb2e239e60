use Rattle.std.proofs.Common.{ap}
use Rattle.type_lattice_trees.specs.Plains.{functions_of}
use Rattle.type_lattice_trees.proofs.Plains.{arities_below, arity-no_function, every-below}
use Rattle.type_lattice_trees.proofs.plain.FunSet.leq.Goals as goal

pub returns-in-OfArity-other : goal.returns-in-OfArity-other
returns-in-OfArity-other c = arities_below (functions_of c.args.self.now) (functions_of c.args.other.now) c.in-OfArity.one c.in-OfArity-other.two (ap functions_of c.in-OfArity.is) (ap functions_of c.in-OfArity-other.is)

pub returns-in-Nothing-other : goal.returns-in-Nothing-other
returns-in-Nothing-other c = arity-no_function (functions_of c.args.self.now) (functions_of c.args.other.now) c.in-OfArity.one (ap functions_of c.in-OfArity.is) (ap functions_of c.in-Nothing-other.is)

pub returns-in-Every : goal.returns-in-Every
returns-in-Every c = every-below c.args.self.now c.args.other.now c.eq.result c.in-Every.is c.eq.ensures
