-- Equality and inclusion of types are functions.
use Rattle.std.proofs.Common.{◌≡◌, Bool, ◌&&◌, arith}
use Rattle.std.specs.Prelude.{◌↔◌, IsTrue}
use Rattle.type_lattice.specs.Types.{Type4, Below, meet}
use Rattle.type_lattice.specs.Inclusion.{is_same, same-equal, leq}
use Rattle.type_lattice.proofs.TypeLaws.{laws}

-- two tests of one fact are one
pub one_test : (a b : Bool) (P : Type 0) → IsTrue a ↔ P → IsTrue b ↔ P → a ≡ b
one_test a b P h k = grind arith

-- inclusion is decided
pub leq_below : (s t : Type4) → IsTrue (leq s t) ↔ Below s t
unfolding leq
leq_below s t = grind (arith, laws.meet-both, laws.same (meet s t) s, same-equal)

-- equality is inclusion both ways
pub same_both : (s t : Type4) → is_same s t ≡ (leq s t && leq t s)
same_both s t = one_test _ _ (s ≡ t) (same-equal s t) (grind (arith, leq_below, laws.same s t))

pub ruleset decisions = (laws, same-equal, leq_below)
