-- A number for each type, which a smaller type has a lower one of: so no descent goes on for ever.
use Rattle.std.specs.Prelude.{◌≡◌, ℕ, zero, suc, ◌+◌, ◌*◌, Bool, cond, List, [], ◌∷◌, Option, Some, None}
use Rattle.type_kinds_sets.specs.Names as names
use Rattle.type_kinds_sets.specs.Numbers as numbers
use Rattle.type_kinds_sets.specs.declared.limits.TheConstants.{MAX_MEMBERS}
use Rattle.type_kinds_sets.specs.BitLengths as bit_lengths
use Rattle.type_lattice_model.specs.declared.limits.TheConstants.{MAX_SIZES, MAX_ELEMENTS}
use Rattle.type_lattice_model.specs.Shapes.{Flags, Functions, no_function, of_arity, all_functions, PlainParts, Cell, Body, product, tags, Tuples, sizes, all_tuples, Parts, TypeAt}
use Rattle.type_lattice_model.specs.HasType.{HasAt}
use Rattle.type_lattice_model.specs.Normal.{NormalAt}
use Rattle.type_lattice_model.specs.Laws.{BelowBy}

abbrev one_if : Bool → ℕ
one_if b = cond b 1 0

abbrev pub flags_rank : Flags → ℕ
flags_rank k = one_if k.float + one_if k.pid + one_if k.port + one_if k.reference + one_if k.nil + one_if k.map

abbrev pub functions_rank : Functions → ℕ
functions_rank no_function = 0
functions_rank (of_arity n) = 1
functions_rank all_functions = 2

abbrev pub plain_rank : PlainParts → ℕ
plain_rank p = names.height p.atoms + numbers.height p.ints + bit_lengths.height p.bits + flags_rank p.flags + functions_rank p.functions

-- of a table: one for each entry, and the rank of what it holds
abbrev pub table_rank : {K X : Type 0} → (X → ℕ) → List (K × X) → ℕ
table_rank of_held [] = 0
table_rank of_held (e ∷ m) = 1 + of_held e.1 + table_rank of_held m

-- of a level whose elements have these ranks, of which none is above `most`
module _ {E : Type 0} (rank_of : E → ℕ) (most : ℕ) where
  abbrev pub cell_rank : Option (Cell E) → ℕ
  cell_rank None = 0
  cell_rank (Some c) = 1 + rank_of c.element + cond c.is_proper 0 1

  abbrev pub row_rank : List E → ℕ
  row_rank [] = 0
  row_rank (e ∷ es) = rank_of e + row_rank es

  -- a product is above MAX_MEMBERS tags whose types are those of its rest
  abbrev pub body_rank : Body E → ℕ
  body_rank (product []) = 0
  body_rank (product (e ∷ es)) = rank_of e + (MAX_MEMBERS + 1) * (1 + row_rank es)
  body_rank (tags m) = table_rank row_rank m

  -- no body of MAX_ELEMENTS elements has a higher rank
  abbrev pub most_body : ℕ
  most_body = most + (MAX_MEMBERS + 1) * (1 + MAX_ELEMENTS * most)

  abbrev pub tuples_rank : Tuples E → ℕ
  tuples_rank (sizes m) = table_rank body_rank m
  tuples_rank all_tuples = 1 + MAX_SIZES * (1 + most_body)

  abbrev pub parts_rank : Parts E → ℕ
  parts_rank p = plain_rank p.plain + cell_rank p.cell + tuples_rank p.tuples

  abbrev pub most_parts : ℕ
  most_parts = 42 + (2 + most) + (1 + MAX_SIZES * (1 + most_body))

-- the highest rank of a level, and the rank of a type
unfoldable pub most_at : ℕ → ℕ
most_at zero = 1
most_at (suc d) = most_parts {E = TypeAt d} (λ _. 0) (most_at d)

unfoldable pub rank : (d : ℕ) → TypeAt d → ℕ
rank zero t = one_if t
rank (suc d) t = parts_rank (rank d) (most_at d) t

-- from the type of a level one can go down n times, each time to a smaller type in normal form
unfoldable pub FallsAt : (d : ℕ) → ℕ → TypeAt d → Type 0
FallsAt d zero t = Unit {0}
FallsAt d (suc n) t = (s : TypeAt d) × (NormalAt d s × BelowBy (HasAt d) s t × (s ≡ t → ⊥) × FallsAt d n s)
