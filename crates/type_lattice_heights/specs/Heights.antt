-- The height of a type: how often one can go down from it, to a smaller type at each step.
use Rattle.std.specs.Prelude.{ℕ, zero, suc, ◌+◌, ◌*◌, cond, List, [], ◌∷◌, length, Option, Some, None}
use Rattle.type_kinds_sets.specs.Names.{Names, some, every}
use Rattle.type_kinds_sets.specs.declared.limits.TheConstants.{MAX_MEMBERS}
use Rattle.type_lattice_model.specs.declared.limits.TheConstants.{MAX_SIZES}
use Rattle.type_lattice_model.specs.Shapes.{Cell, Body, product, tags, Tuples, sizes, all_tuples, Parts, TypeAt}
use Rattle.type_lattice_model.specs.Operations.{ops}
use Rattle.type_lattice_model.specs.Ranks.{plain_rank, table_rank}
use Rattle.type_lattice.specs.Types.{Type4}

abbrev pub one_less : ℕ → ℕ
one_less zero = 0
one_less (suc n) = n

abbrev pub at_least_one : ℕ → ℕ
at_least_one zero = 1
at_least_one (suc n) = suc n

-- how many of the atoms can be the tags of one size
abbrev pub tags_of : Names → ℕ
tags_of (some xs _) = length xs
tags_of every = MAX_MEMBERS

-- of a level whose elements have these heights, and atoms that can be so many tags
module _ {E : Type 0} (height_of : E → ℕ) (tags_in : E → ℕ) where
  -- a position goes down as long as it has a value
  abbrev pub row_height : List E → ℕ
  row_height [] = 0
  row_height (e ∷ es) = one_less (height_of e) + row_height es

  -- So does a body. A product first loses the values of its first element that are no atoms, and then becomes tags, each of which
  -- has the rest of the elements and loses them before it is lost.
  abbrev pub body_height : Body E → ℕ
  body_height (product []) = 0
  body_height (product (e ∷ es)) = one_less (height_of e) + at_least_one (tags_in e) * row_height es
  body_height (tags m) = one_less (table_rank row_height m)

  -- free ends become proper, the element goes down, and at last there is no list
  abbrev pub cell_height : Option (Cell E) → ℕ
  cell_height None = 0
  cell_height (Some c) = height_of c.element + cond c.is_proper 0 1

  -- of the tuples of n elements
  abbrev pub full_height : E → ℕ → ℕ
  full_height any zero = 0
  full_height any (suc n) = one_less (height_of any) + at_least_one (tags_in any) * (n * one_less (height_of any))

  -- of the tuples of so many sizes, from this one on
  abbrev pub sizes_height : E → ℕ → ℕ → ℕ
  sizes_height any zero n = 0
  sizes_height any (suc c) n = 1 + full_height any n + sizes_height any c (suc n)

  -- all tuples go down to those of the eight greatest sizes, from 57 to 64
  abbrev pub tuples_height : E → Tuples E → ℕ
  tuples_height any (sizes m) = table_rank body_height m
  tuples_height any all_tuples = 1 + sizes_height any MAX_SIZES 57

  abbrev pub parts_height : E → Parts E → ℕ
  parts_height any p = plain_rank p.plain + cell_height p.cell + tuples_height any p.tuples

unfoldable pub tags_at : (d : ℕ) → TypeAt d → ℕ
tags_at zero t = 0
tags_at (suc d) t = tags_of t.plain.atoms

unfoldable pub height_at : (d : ℕ) → TypeAt d → ℕ
height_at zero t = cond t 1 0
height_at (suc d) t = parts_height (height_at d) (tags_at d) (ops d).any t

unfoldable pub height : Type4 → ℕ
height t = height_at 4 t.ty
