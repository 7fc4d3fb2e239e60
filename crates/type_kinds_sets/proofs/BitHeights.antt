-- How far one can go down from a set of bit strings.
use Rattle.std.proofs.Common.{◌≡◌, ℕ, ◌≤◌, ◌<◌, arith}
use Rattle.type_kinds_sets.specs.declared.bits.Bits.{Bits}
use Rattle.type_kinds_sets.specs.declared.bits.Bits.TheVariants.{No, Whole, Any}
use Rattle.type_kinds_sets.specs.BitLengths.{Below, height}
use Rattle.type_kinds_sets.specs.Heights.{Falls}
use Rattle.type_kinds_sets.proofs.HeightLaws.{falls-bound, down, stay}

-- a smaller set has a lower height
pub height-lower : (s t : Bits) → Below s t → (s ≡ t → ⊥) → height s < height t
height-lower s t f n = grind (arith, f 0, f 1)

pub height-bound : (s : Bits) (n : ℕ) → Falls Below n s → n ≤ height s
height-bound = falls-bound Below height height-lower

whole-falls : Falls Below 1 Whole
whole-falls = down Below height 0 Whole No (λ n h. grind arith) (omega arith) (stay Below height No)

pub height-reached : (s : Bits) → Falls Below (height s) s
height-reached No = stay Below height No
height-reached Whole = whole-falls
height-reached Any = down Below height 1 Any Whole (λ n h. grind arith) (omega arith) whole-falls

pub height-most : (s : Bits) → height s ≤ 2
height-most s = grind arith

pub ruleset laws = (height-lower, height-bound, height-reached, height-most)
