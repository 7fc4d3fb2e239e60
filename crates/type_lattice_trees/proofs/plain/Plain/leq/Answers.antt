use Rattle.std.proofs.Common.{arith}
use Rattle.type_lattice_trees.proofs.Plains.{five_tell, plain_below}
use Rattle.type_lattice_trees.proofs.plain.Plain.leq.Goals as goal

pub returns-then-leq-4 : goal.returns-then-leq-4
returns-then-leq-4 c =
    plain_below _ _ _ _ c.leq-then-leq-4.result c.self.view_is c.other.view_is
    (five_tell c.leq.result c.if-leq.value c.if-leq-2.value c.if-leq-3.value _ c.leq.ensures (grind arith) (grind arith) (grind arith) (grind arith) (grind arith) (grind arith) (λ _. c.leq-then-leq-4.ensures) (grind arith))

pub returns-else-leq-4 : goal.returns-else-leq-4
returns-else-leq-4 c =
    plain_below _ _ _ _ c.if-leq-3.value c.self.view_is c.other.view_is
    (five_tell c.leq.result c.if-leq.value c.if-leq-2.value c.if-leq-3.value _ c.leq.ensures (grind arith) (grind arith) (grind arith) (grind arith) (grind arith) (grind arith) (grind arith) (grind arith))
