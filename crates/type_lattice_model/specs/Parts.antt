-- Types made of types, and the types of what a tuple or a list holds.
use Rattle.std.specs.Prelude.{ℕ, zero, suc, ◌+◌, ◌-◌, Bool, true, false, cond, ◌&&◌, List, [], ◌∷◌, length, nat_lt, slice_get, Option, Some, None}
use Rattle.std.specs.Ordering.{nat_cmp}
use Rattle.type_kinds_sets.specs.Names as names
use Rattle.type_kinds_sets.specs.Numbers as numbers
use Rattle.type_kinds_sets.specs.declared.bits.Bits.TheVariants.{No}
use Rattle.type_lattice_model.specs.declared.limits.TheConstants.{MAX_ELEMENTS}
use Rattle.type_lattice_model.specs.Values.{Value, Values, no_value, and_value}
use Rattle.type_lattice_model.specs.Tables.{find}
use Rattle.type_lattice_model.specs.Shapes.{Flags, PlainParts, no_function, Cell, Tuples, sizes, all_tuples, Parts, TypeAt}
use Rattle.type_lattice_model.specs.Operations.{Ops, plain_none, plain_all, is_no_plain, is_empty, has_none, body_of, elements, no_tuples, of_plain, ops}
use Rattle.type_lattice_model.specs.Cut.{cut}

-- whether the lists of a cell, if any, end in nil
abbrev pub proper_cell : {E : Type 0} → Option (Cell E) → Bool
proper_cell None = true
proper_cell (Some c) = c.is_proper

abbrev pub without_nil : PlainParts → PlainParts
without_nil p = record {
  atoms = p.atoms;
  ints = p.ints;
  bits = p.bits;
  flags = record { float = p.flags.float; pid = p.flags.pid; port = p.flags.port; reference = p.flags.reference; nil = false; map = p.flags.map };
  functions = p.functions;
}

abbrev pub flags_of_nil : Flags
flags_of_nil = record { float = false; pid = false; port = false; reference = false; nil = true; map = false }

module _ {E : Type 0} (o : Ops E) where
  -- the tuples whose elements are of these types, one level up
  abbrev pub product_of : List E → Parts E
  product_of es =
      cond (has_none o es) (of_plain o plain_none)
      (record { plain = plain_none; cell = None; tuples = cond (nat_lt (length es) (MAX_ELEMENTS + 1)) (sizes ((length es, body_of o es) ∷ [])) all_tuples })

  -- whether each value of the type is a proper list
  abbrev pub is_list : Parts E → Bool
  is_list p = is_no_plain (without_nil p.plain) && proper_cell p.cell && no_tuples o p.tuples

  -- the element type of a list whose head is of type e and whose tail has this cell
  abbrev pub element_with : E → Option (Cell E) → E
  element_with e None = e
  element_with e (Some c) = o.join e c.element

  -- the type of an element of a tuple, the first at 0, and whether there is a tuple that long
  abbrev pub element_at : Tuples E → ℕ → ℕ → Option E
  element_at all_tuples n i = Some o.any
  element_at (sizes m) n i =
      cond (nat_lt n (MAX_ELEMENTS + 1))
      (elim (find nat_cmp m n) [ None ↦ None | Some b ↦ slice_get (elements o b) i ])
      (cond (is_empty m) None (Some o.any))

  -- what may follow the head of a list of this cell
  abbrev pub tail_parts : Option (Cell E) → Parts E
  tail_parts None = of_plain o plain_none
  tail_parts (Some c) =
      record {
        plain = cond c.is_proper (record { atoms = names.none; ints = numbers.none; bits = No; flags = flags_of_nil; functions = no_function }) plain_all;
        cell = Some c;
        tuples = cond c.is_proper (sizes []) all_tuples;
      }

-- the least type of the level that has the tuples of these types
abbrev pub tuple_at : (d : ℕ) → List (TypeAt d) → TypeAt d
tuple_at d es = cut (suc d) d (product_of (ops d) es)

-- the lists of a head of the first type and a tail of the second. With `proper` the ends are proper where each value of the
-- tail is a proper list, and the type is then the least of its level
abbrev pub cons_at : (d : ℕ) → TypeAt (suc d) → TypeAt (suc d) → Bool → TypeAt (suc d)
cons_at d h t proper =
    cond ((ops (suc d)).is_none h) (ops (suc d)).none
    (cond ((ops (suc d)).is_none t) (ops (suc d)).none
    (record {
      plain = plain_none;
      cell = Some (record { element = element_with (ops d) (cut (suc d) d h) t.cell; is_proper = proper && is_list (ops d) t });
      tuples = sizes [];
    }))

abbrev pub lifted : (d : ℕ) → Option (TypeAt d) → TypeAt (suc d)
lifted d None = (ops (suc d)).none
lifted d (Some e) = cut d (suc d) e

-- the type of the i-th element of the tuples of n elements, the first at 1
abbrev pub project_at : (d : ℕ) → TypeAt (suc d) → ℕ → ℕ → TypeAt (suc d)
project_at d t n i = lifted d (element_at (ops d) t.tuples n (i - 1))

abbrev pub element_of : {E : Type 0} → Option (Cell E) → Option E
element_of None = None
element_of (Some c) = Some c.element

-- the type of the heads of a list, and the type of its tail
abbrev pub elem_at : (d : ℕ) → TypeAt (suc d) → TypeAt (suc d)
elem_at d t = lifted d (element_of t.cell)

abbrev pub tail_at : (d : ℕ) → TypeAt (suc d) → TypeAt (suc d)
tail_at d t = tail_parts (ops d) t.cell

-- the value at a position of a tuple, the first at 0
abbrev pub value_at : Values → ℕ → Option Value
value_at no_value i = None
value_at (and_value v vs) zero = Some v
value_at (and_value v vs) (suc i) = value_at vs i

abbrev pub AreNormal : {E : Type 0} → (E → Type 0) → List E → Type 0
AreNormal Normal [] = Unit {0}
AreNormal Normal (e ∷ es) = Normal e × AreNormal Normal es
