-- Whether a type has every value, told by its parts: all of them are full.
use Rattle.std.specs.Prelude.{ℕ, zero, suc, Bool, true, false, cond, ◌&&◌, Option, Some, None}
use Rattle.type_kinds_sets.specs.Names as names
use Rattle.type_kinds_sets.specs.Names.{Names}
use Rattle.type_kinds_sets.specs.Numbers as numbers
use Rattle.type_kinds_sets.specs.Numbers.{Numbers}
use Rattle.type_kinds_sets.specs.declared.ends.Low.TheVariants as low
use Rattle.type_kinds_sets.specs.declared.ends.High.TheVariants as high
use Rattle.type_kinds_sets.specs.declared.bits.Bits.{Bits}
use Rattle.type_kinds_sets.specs.declared.bits.Bits.TheVariants.{No, Whole, Any}
use Rattle.type_lattice_model.specs.Shapes.{Functions, no_function, of_arity, all_functions, PlainParts, Cell, Tuples, sizes, all_tuples, TypeAt}

abbrev pub is_all_atoms : Names → Bool
is_all_atoms (names.some xs _) = false
is_all_atoms names.every = true

abbrev pub is_all_ints : Numbers → Bool
is_all_ints (numbers.some xs _) = false
is_all_ints (numbers.between low.Min high.Max _) = true
is_all_ints (numbers.between l h _) = false

abbrev pub is_all_bits : Bits → Bool
is_all_bits No = false
is_all_bits Whole = false
is_all_bits Any = true

abbrev pub is_all_functions : Functions → Bool
is_all_functions no_function = false
is_all_functions (of_arity n) = false
is_all_functions all_functions = true

abbrev pub is_all_plain : PlainParts → Bool
is_all_plain p =
    is_all_atoms p.atoms && is_all_ints p.ints && is_all_bits p.bits && is_all_functions p.functions
    && p.flags.float && p.flags.pid && p.flags.port && p.flags.reference && p.flags.nil && p.flags.map

abbrev pub is_any_cell : {E : Type 0} → (E → Bool) → Option (Cell E) → Bool
is_any_cell is_any None = false
is_any_cell is_any (Some c) = cond c.is_proper false (is_any c.element)

abbrev pub is_every_tuple : {E : Type 0} → Tuples E → Bool
is_every_tuple (sizes m) = false
is_every_tuple all_tuples = true

-- whether all parts of a type are full
abbrev pub is_any : (d : ℕ) → TypeAt d → Bool
is_any zero t = t
is_any (suc d) t = is_all_plain t.plain && is_any_cell (is_any d) t.cell && is_every_tuple t.tuples
