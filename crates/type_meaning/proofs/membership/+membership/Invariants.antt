use Rattle.std.proofs.Common.{◌↔◌, ◌+◌, drop}
use Rattle.type_meaning.specs.Values.{value_of}
use Rattle.type_meaning.proofs.Variants.{all_values}
use Rattle.type_meaning.proofs.Memberships.{EachIn}
use Rattle.type_meaning.proofs.Weights.{weight, weights}
use Rattle.type_meaning.proofs.membership.+membership.Given as goal

-- each call has a lighter value, or one as heavy and a position before its caller in this order
abbrev pub decreases-follows : goal.decreases-follows
decreases-follows l = weight (value_of l.v.now)

abbrev pub decreases-is_in : goal.decreases-is_in
decreases-is_in l = weight (value_of l.v.now) + 1

abbrev pub decreases-each_in : goal.decreases-each_in
decreases-each_in l = weights (all_values l.elements.now)

abbrev pub decreases-body_in : goal.decreases-body_in
decreases-body_in l = weights (all_values l.elements.now) + 1

abbrev pub decreases-tuple_in : goal.decreases-tuple_in
decreases-tuple_in l = weights (all_values l.elements.now) + 2

abbrev pub invariant-each_in-loop-i : goal.invariant-each_in-loop-i
invariant-each_in-loop-i l = EachIn l.level l.elements l.row ↔ EachIn l.level (drop l.i l.elements) (drop l.i l.row)
