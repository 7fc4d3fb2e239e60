-- The ends of an interval of integers: which numbers they let in, and which end lets in more.
use Rattle.std.specs.Prelude.{ℕ, ◌+◌, ℤ, pos, negsuc, int_le, int_lt, Bool, true, false, cond, ◌&&◌}
use Rattle.type_kinds_sets.specs.declared.ends.Low.{Low}
use Rattle.type_kinds_sets.specs.declared.ends.Low.TheVariants.{Min, Zero, One}
use Rattle.type_kinds_sets.specs.declared.ends.High.{High}
use Rattle.type_kinds_sets.specs.declared.ends.High.TheVariants.{MinusOne, Byte, Unicode, Max}

-- whether the number isn't under the lower end
abbrev pub at_least : Low → ℤ → Bool
at_least Min n = true
at_least Zero n = int_le (pos 0) n
at_least One n = int_le (pos 1) n

-- whether the number isn't over the upper end
abbrev pub at_most : High → ℤ → Bool
at_most MinusOne n = int_lt n (pos 0)
at_most Byte n = int_lt n (pos 256)
at_most Unicode n = int_lt n (pos 1114112)
at_most Max n = true

-- whether the number is in the interval
abbrev pub in_range : Low → High → ℤ → Bool
in_range l h n = at_least l n && at_most h n

-- whether the interval has a number
abbrev pub is_range : Low → High → Bool
is_range Min h = true
is_range Zero MinusOne = false
is_range Zero h = true
is_range One MinusOne = false
is_range One h = true

-- the lower end of two that lets in more, and the one that lets in fewer
abbrev pub lower : Low → Low → Low
lower Min m = Min
lower Zero Min = Min
lower Zero m = Zero
lower One m = m

abbrev pub raised : Low → Low → Low
raised Min m = m
raised Zero One = One
raised Zero m = Zero
raised One m = One

-- the upper end of two that lets in more, and the one that lets in fewer
abbrev pub higher : High → High → High
higher MinusOne k = k
higher Byte MinusOne = Byte
higher Byte k = k
higher Unicode Max = Max
higher Unicode k = Unicode
higher Max k = Max

abbrev pub lowered : High → High → High
lowered MinusOne k = MinusOne
lowered Byte MinusOne = MinusOne
lowered Byte k = Byte
lowered Unicode Max = Unicode
lowered Unicode k = k
lowered Max k = k

-- the end that lets the number in and as little else as may be
abbrev pub low_of : ℤ → Low
low_of n = cond (int_lt n (pos 0)) Min (cond (int_lt n (pos 1)) Zero One)

abbrev pub high_of : ℤ → High
high_of n = cond (int_lt n (pos 0)) MinusOne (cond (int_lt n (pos 256)) Byte (cond (int_lt n (pos 1114112)) Unicode Max))

-- a number that a lower end lets in, and that every end which lets in less keeps out
abbrev pub bottom : Low → ℤ
bottom Min = negsuc 0
bottom Zero = pos 0
bottom One = pos 1

-- the same for an upper end
abbrev pub top : High → ℤ
top MinusOne = negsuc 0
top Byte = pos 255
top Unicode = pos 1114111
top Max = pos 1114112

-- how often an interval can shrink to a smaller one
abbrev pub rises : Low → ℕ
rises Min = 2
rises Zero = 1
rises One = 0

abbrev pub shrinks : Low → High → ℕ
shrinks l MinusOne = 0
shrinks l Byte = rises l
shrinks l Unicode = 1 + rises l
shrinks l Max = 2 + rises l
