-- The laws of sets of bit strings.
use Rattle.std.proofs.Common.{◌≡◌, ℕ, ◌&&◌, arith}
use Rattle.type_kinds_sets.specs.declared.bits.Bits.{Bits}
use Rattle.type_kinds_sets.specs.BitLengths.{has, Below, meet, join}

pub below-itself : (s : Bits) → Below s s
below-itself s n h = h

pub below-below : (s t u : Bits) → Below s t → Below t u → Below s u
below-below s t u f g n h = g n (f n h)

pub has-meet : (s t : Bits) (n : ℕ) → has (meet s t) n ≡ (has s n && has t n)
has-meet s t n = grind arith

pub join-left : (s t : Bits) → Below s (join s t)
join-left s t h k = grind arith

pub join-right : (s t : Bits) → Below t (join s t)
join-right s t h k = grind arith

pub join-least : (s t u : Bits) → Below s u → Below t u → Below (join s t) u
join-least s t u h k f g = grind arith

-- the empty bit string is of whole bytes, and one bit isn't: these tell the sets apart
pub same_bits : (s t : Bits) → Below s t → Below t s → s ≡ t
same_bits s t f g = grind (arith, f 0, f 1, g 0, g 1)

pub ruleset laws = (has-meet, join-left, join-right, join-least, same_bits)
