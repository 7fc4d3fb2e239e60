use Rattle.std.proofs.Common.{refl}
use Rattle.type_lattice.proofs.DecisionLaws.{same_both}
use Rattle.type_lattice.proofs.equality.TyPartialEq.eq.Goals as goal

pub returns-then-leq : goal.returns-then-leq
returns-then-leq c = rw (same_both, ← c.leq.ensures.value, c.if-leq.true) c.leq-then-leq.ensures.value

pub returns-else-leq : goal.returns-else-leq
returns-else-leq c = rw (same_both, ← c.leq.ensures.value, c.if-leq.false) refl
