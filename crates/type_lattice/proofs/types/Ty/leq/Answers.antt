use Rattle.type_lattice.specs.Types.{HasType, Below}
use Rattle.type_lattice.proofs.DecisionLaws.{one_test, leq_below}
use Rattle.type_lattice.proofs.types.Ty.leq.Goals as goal

pub returns-clause-below : goal.returns-clause-below
unfolding HasType
returns-clause-below c = rw (← c.self.view_is, ← c.other.view_is) c.leq.ensures

pub returns-clause-value : goal.returns-clause-value
returns-clause-value c = one_test _ _ (Below c.args.self.now c.args.other.now) (returns-clause-below c) (leq_below _ _)
