use Rattle.type_kinds_sets.proofs.NumberLaws.{join-least}
use Rattle.type_kinds_sets.proofs.int_set.IntSet.join.Goals as goal

pub returns-in-Some-clause-least : goal.returns-in-Some-clause-least
returns-in-Some-clause-least c u f g = rw (← c.in-Some.ensures.some.1) (join-least c.args.self.now c.args.other.now u f g)

pub returns-in-None-clause-least : goal.returns-in-None-clause-least
returns-in-None-clause-least c u f g = rw (c.hull.ensures, ← c.in-None.ensures.none) (join-least c.args.self.now c.args.other.now u f g)
