-- The types that the table of narrowing names, and the types that it makes of those of the arguments.
use Rattle.std.specs.Prelude.{Bool, not, cond, List, [], ◌∷◌, codes}
use Rattle.std.specs.List.{list_any, list_all}
use Rattle.type_kinds_sets.specs.Names as names
use Rattle.type_kinds_sets.specs.Numbers as numbers
use Rattle.type_kinds_sets.specs.Numbers.{Numbers}
use Rattle.type_kinds_sets.specs.declared.ends.Low.TheVariants.{Min, Zero}
use Rattle.type_kinds_sets.specs.declared.ends.High.TheVariants.{Max}
use Rattle.type_lattice.specs.Types.{Type4, none, is_none, meet, join, of_atoms, of_ints}
use Rattle.type_lattice.specs.Inclusion.{leq}
use Rattle.type_lattice.specs.Elements.{ints_of, elements_at}
use Rattle.type_lattice.specs.Kinds.{of_kind}
use Rattle.type_lattice.specs.declared.kinds.Kind.TheVariants.{Float}

-- all integers, those from 0 on, and all floats
unfoldable pub integers : Type4
integers = of_ints (numbers.range Min Max)

unfoldable pub naturals : Type4
naturals = of_ints (numbers.range Zero Max)

unfoldable pub floats : Type4
floats = of_kind Float

-- the one atom `true`, the one atom `false`, and both
unfoldable pub just_true : Type4
just_true = of_atoms (names.listed (codes "true" ∷ []))

unfoldable pub just_false : Type4
just_false = of_atoms (names.listed (codes "false" ∷ []))

unfoldable pub truths : Type4
truths = join just_false just_true

-- whether a type has an integer, and whether it has a float
unfoldable pub has_integer : Type4 → Bool
has_integer t = not (numbers.is_none (ints_of t))

unfoldable pub has_float : Type4 → Bool
has_float t = not (is_none (meet t floats))

-- the type where the answer is yes, and else none
abbrev pub where_so : Bool → Type4 → Type4
where_so b t = cond b t none

-- what arithmetic gives: integers where every argument has one, joined with floats where some argument has one
unfoldable pub arithmetic : List Type4 → Type4
arithmetic ts = join (where_so (list_all has_integer ts) integers) (where_so (list_any has_float ts) floats)

-- what the absolute value of a number is: a natural number where it has an integer, joined with floats where it has one
unfoldable pub absolute : Type4 → Type4
absolute t = join (where_so (has_integer t) naturals) (where_so (has_float t) floats)

-- the positions that a set of integers says: those of a list, and all where it is an interval
abbrev pub positions : Numbers → Numbers
positions (numbers.some xs e) = numbers.some xs e
positions (numbers.between l h e) = numbers.range Min Max

-- the elements of the tuples of the second type at the positions that the first one says
unfoldable pub selected : Type4 → Type4 → Type4
selected i t = elements_at t (positions (ints_of i))

-- whether a value of the second type is of the first: no where they have no value in common, yes where the second is below
-- the first, and else either. For no value there is no answer
unfoldable pub tested : Type4 → Type4 → Type4
tested t a = cond (is_none a) none (cond (is_none (meet a t)) just_false (cond (leq a t) just_true truths))

-- the same without the yes
unfoldable pub tested_some : Type4 → Type4 → Type4
tested_some t a = cond (is_none (meet a t)) just_false truths

-- whether values of two types are one, and whether they are two: settled where the types have no value in common
unfoldable pub same_values : Type4 → Type4 → Type4
same_values s t = cond (is_none (meet s t)) just_false truths

unfoldable pub other_values : Type4 → Type4 → Type4
other_values s t = cond (is_none (meet s t)) just_true truths
