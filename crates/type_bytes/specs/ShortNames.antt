-- Which types can be written: the length of an atom is written in four bytes.
use Rattle.std.specs.Prelude.{ℕ, zero, suc, ◌^◌, Bool, true, ◌&&◌, List, length, nat_lt, Option, Some, None}
use Rattle.std.specs.List.{list_all}
use Rattle.type_kinds_sets.specs.Names as names
use Rattle.type_kinds_sets.specs.Names.{Name, Names}
use Rattle.type_lattice_model.specs.Shapes.{Cell, Body, product, tags, Tuples, sizes, all_tuples, Parts, TypeAt}
use Rattle.type_lattice.specs.Types.{Type4}

-- whether an atom has fewer than 2^32 bytes
abbrev pub is_short : Name → Bool
is_short a = nat_lt (length a) (2 ^ 32)

abbrev pub are_short : Names → Bool
are_short (names.some xs _) = list_all is_short xs
are_short names.every = true

module _ {E : Type 0} (short : E → Bool) where
  abbrev pub is_short_cell : Option (Cell E) → Bool
  is_short_cell None = true
  is_short_cell (Some c) = short c.element

  abbrev pub is_short_tag : Name × List E → Bool
  is_short_tag t = is_short t.0 && list_all short t.1

  abbrev pub is_short_body : Body E → Bool
  is_short_body (product es) = list_all short es
  is_short_body (tags m) = list_all is_short_tag m

  abbrev pub is_short_size : ℕ × Body E → Bool
  is_short_size s = is_short_body s.1

  abbrev pub are_short_tuples : Tuples E → Bool
  are_short_tuples (sizes m) = list_all is_short_size m
  are_short_tuples all_tuples = true

  abbrev pub are_short_parts : Parts E → Bool
  are_short_parts p = are_short p.plain.atoms && is_short_cell p.cell && are_short_tuples p.tuples

-- whether each atom in a type is so short
abbrev pub is_short_at : (d : ℕ) → TypeAt d → Bool
is_short_at zero t = true
is_short_at (suc d) t = are_short_parts (is_short_at d) t

unfoldable pub has_short_names : Type4 → Bool
has_short_names t = is_short_at 4 t.ty
