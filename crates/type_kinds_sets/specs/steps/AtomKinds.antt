-- What the code's set of atoms stands for, and what it keeps.
use Rattle.std.specs.Prelude.{◌≡◌, true}
use Rattle.type_kinds_sets.specs.declared.atom_set.Kind.{Kind}
use Rattle.type_kinds_sets.specs.declared.atom_set.Kind.TheVariants.{Listed, Every}
use Rattle.type_kinds_sets.specs.Names.{Names, every, are_listed, listed}

abbrev pub names_of : Kind → Names
names_of (Listed v) = listed v
names_of Every = every

abbrev pub IsKept : Kind → Type 0
IsKept (Listed v) = are_listed v ≡ true
IsKept Every = Unit {0}
