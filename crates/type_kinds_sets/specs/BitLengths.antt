-- Sets of bit strings, told by their lengths in bits.
use Rattle.std.specs.Prelude.{◌≡◌, ℕ, ◌%◌, ◌==◌, Bool, true, false}
use Rattle.type_kinds_sets.specs.declared.bits.Bits.{Bits}
use Rattle.type_kinds_sets.specs.declared.bits.Bits.TheVariants.{No, Whole, Any}

-- whether the set has the bit strings of this length: `Whole` has those of a whole number of bytes
abbrev pub has : Bits → ℕ → Bool
has No n = false
has Whole n = n % 8 == 0
has Any n = true

-- each bit string of the first set is in the second
abbrev pub Below : Bits → Bits → Type 0
Below s t = (n : ℕ) → has s n ≡ true → has t n ≡ true

-- the bit strings of both sets
abbrev pub meet : Bits → Bits → Bits
meet No t = No
meet Whole No = No
meet Whole t = Whole
meet Any t = t

-- the smallest of the three sets that contains both
abbrev pub join : Bits → Bits → Bits
join No t = t
join Whole Any = Any
join Whole t = Whole
join Any t = Any

-- how often one can go from the set to a smaller one
abbrev pub height : Bits → ℕ
height No = 0
height Whole = 1
height Any = 2
