use Rattle.std.proofs.Common.{arith, ltb-true}
use Rattle.cons_solve.proofs.SettledParts.{bound_is_once, equal_is_once}
use Rattle.cons_solve.proofs.solving.is_settled_at_once.Goals as goal

pub returns-in-Bound : goal.returns-in-Bound
returns-in-Bound c = λ told. bound_is_once c.type_facts.ensures c.args.part.now c.in-Bound.slot c.in-Bound.field-1 c.args.count c.in-Bound.is (ltb-true c.in-Bound.slot c.args.count told)

pub returns-else-slot-count : goal.returns-else-slot-count
returns-else-slot-count c = λ told.
    equal_is_once c.type_facts.ensures c.args.part.now c.in-Equal.slot c.in-Equal.other c.args.count c.in-Equal.is
    c.if-slot-other.false (omega (arith, c.if-slot-count.false)) (ltb-true c.in-Equal.other c.args.count told)
