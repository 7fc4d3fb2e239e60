-- What the code's set of integers stands for, and what it keeps.
use Rattle.std.specs.Prelude.{◌≡◌, Bool, true, false, ◌&&◌}
use Rattle.std.specs.List.{list_all}
use Rattle.type_kinds_sets.specs.declared.int_set.Kind.{Kind}
use Rattle.type_kinds_sets.specs.declared.int_set.Kind.TheVariants.{Listed, Between}
use Rattle.type_kinds_sets.specs.Ends.{is_range, at_least, at_most, bottom, top}
use Rattle.type_kinds_sets.specs.Numbers.{Numbers, some, between, are_listed, has, listed, range}

abbrev pub numbers_of : Kind → Numbers
numbers_of (Listed v) = listed v.items
numbers_of (Between l h) = range l h

abbrev pub IsKept : Kind → Type 0
IsKept (Listed v) = are_listed v.items ≡ true
IsKept (Between l h) = is_range l h ≡ true

-- the test by which the code tells that each integer of a set is in another
abbrev pub below : Numbers → Numbers → Bool
below (some xs _) t = list_all (has t) xs
below (between l h _) (some ys _) = false
below (between l h _) (between m k _) = at_least m (bottom l) && at_most k (top h)
