-- The least type of another level.
use Rattle.std.specs.Prelude.{ℕ, zero, suc, not, cond, List, map, Option, Some, None}
use Rattle.type_lattice_model.specs.Tables.{mapped}
use Rattle.type_lattice_model.specs.Shapes.{Cell, Body, product, tags, Tuples, sizes, all_tuples, Parts, TypeAt}
use Rattle.type_lattice_model.specs.Operations.{Ops, elements, ops}

-- what becomes of the parts of a type where its element types become others
module _ {F E : Type 0} (lower : F → E) (high : Ops F) (low : Ops E) where
  abbrev pub row_lower : List F → List E
  row_lower es = map lower es

  abbrev pub cell_lower : Option (Cell F) → Option (Cell E)
  cell_lower None = None
  cell_lower (Some c) = Some (record { element = lower c.element; is_proper = c.is_proper })

  -- tags become a product where there can be none
  abbrev pub body_lower : Body F → Body E
  body_lower (product es) = product (row_lower es)
  body_lower (tags m) = cond low.has_tags (tags (mapped row_lower m)) (product (row_lower (elements high (tags m))))

  abbrev pub tuples_lower : Tuples F → Tuples E
  tuples_lower (sizes m) = sizes (mapped body_lower m)
  tuples_lower all_tuples = all_tuples

  abbrev pub parts_lower : Parts F → Parts E
  parts_lower p = record { plain = p.plain; cell = cell_lower p.cell; tuples = tuples_lower p.tuples }

-- the least type of level d that has the values of a type of level e; where e isn't above d it has no others
unfoldable pub cut : (e d : ℕ) → TypeAt e → TypeAt d
cut e zero t = not ((ops e).is_none t)
cut zero (suc d) t = cond t (ops (suc d)).any (ops (suc d)).none
cut (suc e) (suc d) t = parts_lower (cut e d) (ops e) (ops d) t
