-- What the analysis does with types: meet, join, and the atoms of a type. The operations of a level are made of those of the
-- level below.
use Rattle.std.specs.Prelude.{ℕ, zero, suc, ◌+◌, ◌==◌, Bool, true, false, not, cond, ◌&&◌, ◌||◌, List, [], ◌∷◌, length, nat_lt, Option, Some, None, option_map}
use Rattle.std.specs.Ordering.{nat_cmp}
use Rattle.type_kinds_sets.specs.Names as names
use Rattle.type_kinds_sets.specs.Names.{Name, Names, name_cmp}
use Rattle.type_kinds_sets.specs.Numbers as numbers
use Rattle.type_kinds_sets.specs.Few.{are_few}
use Rattle.type_kinds_sets.specs.BitLengths as bit_lengths
use Rattle.type_kinds_sets.specs.declared.bits.Bits.{Bits}
use Rattle.type_kinds_sets.specs.declared.bits.Bits.TheVariants.{No, Whole, Any}
use Rattle.type_lattice_model.specs.declared.limits.TheConstants.{MAX_SIZES}
use Rattle.type_lattice_model.specs.Tables.{keys, held, all_hold, chosen, joined, both_at, find, united}
use Rattle.type_lattice_model.specs.Shapes.{Flags, Functions, no_function, of_arity, all_functions, PlainParts, Cell, Body, product, tags, Tuples, sizes, all_tuples, Parts, TypeAt}

-- ---- the parts that hold no other values

abbrev pub no_flags : Flags
no_flags = record { float = false; pid = false; port = false; reference = false; nil = false; map = false }

abbrev pub all_flags : Flags
all_flags = record { float = true; pid = true; port = true; reference = true; nil = true; map = true }

abbrev pub flags_meet : Flags → Flags → Flags
flags_meet k l = record { float = k.float && l.float; pid = k.pid && l.pid; port = k.port && l.port; reference = k.reference && l.reference; nil = k.nil && l.nil; map = k.map && l.map }

abbrev pub flags_join : Flags → Flags → Flags
flags_join k l = record { float = k.float || l.float; pid = k.pid || l.pid; port = k.port || l.port; reference = k.reference || l.reference; nil = k.nil || l.nil; map = k.map || l.map }

abbrev pub is_no_flag : Flags → Bool
is_no_flag k = not (k.float || k.pid || k.port || k.reference || k.nil || k.map)

abbrev pub functions_meet : Functions → Functions → Functions
functions_meet no_function g = no_function
functions_meet (of_arity m) no_function = no_function
functions_meet (of_arity m) (of_arity n) = cond (m == n) (of_arity m) no_function
functions_meet (of_arity m) all_functions = of_arity m
functions_meet all_functions g = g

abbrev pub functions_join : Functions → Functions → Functions
functions_join no_function g = g
functions_join (of_arity m) no_function = of_arity m
functions_join (of_arity m) (of_arity n) = cond (m == n) (of_arity m) all_functions
functions_join (of_arity m) all_functions = all_functions
functions_join all_functions g = all_functions

abbrev pub is_no_function : Functions → Bool
is_no_function no_function = true
is_no_function (of_arity n) = false
is_no_function all_functions = false

abbrev pub is_no_bits : Bits → Bool
is_no_bits No = true
is_no_bits Whole = false
is_no_bits Any = false

abbrev pub plain_none : PlainParts
plain_none = record { atoms = names.none; ints = numbers.none; bits = No; flags = no_flags; functions = no_function }

abbrev pub plain_all : PlainParts
plain_all = record { atoms = names.every; ints = numbers.all; bits = Any; flags = all_flags; functions = all_functions }

abbrev pub plain_meet : PlainParts → PlainParts → PlainParts
plain_meet p q = record { atoms = names.meet p.atoms q.atoms; ints = numbers.meet p.ints q.ints; bits = bit_lengths.meet p.bits q.bits; flags = flags_meet p.flags q.flags; functions = functions_meet p.functions q.functions }

abbrev pub plain_join : PlainParts → PlainParts → PlainParts
plain_join p q = record { atoms = names.join p.atoms q.atoms; ints = numbers.join p.ints q.ints; bits = bit_lengths.join p.bits q.bits; flags = flags_join p.flags q.flags; functions = functions_join p.functions q.functions }

-- whether there is nothing but atoms, and whether there is nothing at all
abbrev pub is_atoms : PlainParts → Bool
is_atoms p = numbers.is_none p.ints && is_no_bits p.bits && is_no_flag p.flags && is_no_function p.functions

abbrev pub is_no_plain : PlainParts → Bool
is_no_plain p = names.is_none p.atoms && is_atoms p

-- ---- types

-- the operations of the types of one level
pub record Ops (E : Type 0) : Type 0 where
  pub none : E
  pub any : E
  pub is_none : E → Bool
  pub meet : E → E → E
  pub join : E → E → E
  pub has_atom : E → Name → Bool
  -- the atoms of a type that has at most thirteen of them and nothing else
  pub only : E → Option (List Name)
  -- the least type that has some atoms, which ascend
  pub of_names : List Name → E
  -- whether a type of the next level may have tags: it may where some type of this one is a set of atoms
  pub has_tags : Bool

abbrev pub zip : {A : Type 0} → (A → A → A) → List A → List A → List A
zip f [] ys = []
zip f (x ∷ xs) [] = []
zip f (x ∷ xs) (y ∷ ys) = f x y ∷ zip f xs ys

abbrev pub or_none : {A : Type 0} → Bool → A → Option A
or_none true x = None
or_none false x = Some x

abbrev pub met_with : {A B : Type 0} → (A → Option B) → Option A → Option B
met_with f None = None
met_with f (Some x) = f x

abbrev pub is_empty : {A : Type 0} → List A → Bool
is_empty [] = true
is_empty (x ∷ xs) = false

module _ {E : Type 0} (o : Ops E) where
  -- ---- lists that aren't empty
  abbrev pub cell_meet : Option (Cell E) → Option (Cell E) → Option (Cell E)
  cell_meet = both_at (λ s t. or_none (o.is_none (o.meet s.element t.element)) (record { element = o.meet s.element t.element; is_proper = s.is_proper || t.is_proper }))

  abbrev pub cell_join : Option (Cell E) → Option (Cell E) → Option (Cell E)
  cell_join = joined (λ s t. record { element = o.join s.element t.element; is_proper = s.is_proper && t.is_proper })

  -- ---- products of element types
  abbrev pub has_none : List E → Bool
  has_none [] = false
  has_none (e ∷ es) = o.is_none e || has_none es

  -- none where a position has no value
  abbrev pub row_meet : List E → List E → Option (List E)
  row_meet es fs = or_none (has_none (zip o.meet es fs)) (zip o.meet es fs)

  abbrev pub row_join : List E → List E → List E
  row_join es fs = zip o.join es fs

  abbrev pub rows_join : List E → List (List E) → List E
  rows_join es [] = es
  rows_join es (fs ∷ rows) = rows_join (row_join es fs) rows

  abbrev pub all_rows_join : List (List E) → List E
  all_rows_join [] = []
  all_rows_join (es ∷ rows) = rows_join es rows

  -- ---- tuples of one size
  -- a product, in normal form: where the first type is a set of at most thirteen atoms, each of them is a tag
  abbrev pub spread : Option (List Name) → E → List E → Body E
  spread None e es = product (e ∷ es)
  spread (Some xs) e es = tags (all_hold xs es)

  abbrev pub body_of : List E → Body E
  body_of [] = product []
  body_of (e ∷ es) = spread (o.only e) e es

  -- the types of what follows a first element that is this atom
  abbrev pub row_at : Body E → Name → Option (List E)
  row_at (product []) a = None
  row_at (product (e ∷ es)) a = cond (o.has_atom e a) (Some es) None
  row_at (tags m) a = find name_cmp m a

  abbrev pub some_tags : List (Name × List E) → Option (Body E)
  some_tags m = or_none (is_empty m) (tags m)

  abbrev pub tags_meet : List (Name × List E) → Body E → List (Name × List E)
  tags_meet m b = chosen (λ a es. met_with (row_meet es) (row_at b a)) m

  abbrev pub body_meet : Body E → Body E → Option (Body E)
  body_meet (product es) (product fs) = option_map body_of (row_meet es fs)
  body_meet (product es) (tags m) = some_tags (tags_meet m (product es))
  body_meet (tags m) b = some_tags (tags_meet m b)

  -- the element types of the least product that contains a body
  abbrev pub elements : Body E → List E
  elements (product es) = es
  elements (tags m) = o.of_names (keys m) ∷ all_rows_join (held m)

  abbrev pub tags_join : List (Name × List E) → List (Name × List E) → List (Name × List E)
  tags_join m w = united name_cmp row_join m w

  -- more than thirteen tags become a product
  abbrev pub capped_tags : List (Name × List E) → Body E
  capped_tags m = cond (are_few m) (tags m) (product (elements (tags m)))

  abbrev pub body_join : Body E → Body E → Body E
  body_join (product es) b = product (row_join es (elements b))
  body_join (tags m) (product fs) = product (row_join (elements (tags m)) fs)
  body_join (tags m) (tags w) = capped_tags (tags_join m w)

  -- ---- tuples
  abbrev pub sizes_meet : List (ℕ × Body E) → List (ℕ × Body E) → List (ℕ × Body E)
  sizes_meet m w = chosen (λ n b. met_with (body_meet b) (find nat_cmp w n)) m

  abbrev pub tuples_meet : Tuples E → Tuples E → Tuples E
  tuples_meet all_tuples t = t
  tuples_meet (sizes m) all_tuples = sizes m
  tuples_meet (sizes m) (sizes w) = sizes (sizes_meet m w)

  -- more than eight sizes become all tuples
  abbrev pub capped_sizes : List (ℕ × Body E) → Tuples E
  capped_sizes m = cond (nat_lt (length m) (MAX_SIZES + 1)) (sizes m) all_tuples

  abbrev pub tuples_join : Tuples E → Tuples E → Tuples E
  tuples_join all_tuples t = all_tuples
  tuples_join (sizes m) all_tuples = all_tuples
  tuples_join (sizes m) (sizes w) = capped_sizes (united nat_cmp body_join m w)

  -- ---- types of the next level
  abbrev pub no_cell : Option (Cell E) → Bool
  no_cell None = true
  no_cell (Some c) = false

  abbrev pub no_tuples : Tuples E → Bool
  no_tuples (sizes m) = is_empty m
  no_tuples all_tuples = false

  -- whether there is nothing but atoms
  abbrev pub is_only_atoms : Parts E → Bool
  is_only_atoms p = is_atoms p.plain && no_cell p.cell && no_tuples p.tuples

  -- some plain values and nothing else
  abbrev pub of_plain : PlainParts → Parts E
  of_plain p = record { plain = p; cell = None; tuples = sizes [] }

  abbrev pub of_atoms : Names → Parts E
  of_atoms s = of_plain (record { atoms = s; ints = numbers.none; bits = No; flags = no_flags; functions = no_function })

  -- lists of one element type, and tuples
  abbrev pub of_list : E → Bool → Parts E
  of_list e proper = record { plain = plain_none; cell = Some (record { element = e; is_proper = proper }); tuples = sizes [] }

  abbrev pub of_tuples : Tuples E → Parts E
  of_tuples t = record { plain = plain_none; cell = None; tuples = t }

  abbrev pub parts_any : Parts E
  parts_any = record { plain = plain_all; cell = Some (record { element = o.any; is_proper = false }); tuples = all_tuples }

  abbrev pub parts_is_none : Parts E → Bool
  parts_is_none p = names.is_none p.plain.atoms && is_only_atoms p

  abbrev pub parts_meet : Parts E → Parts E → Parts E
  parts_meet p q = record { plain = plain_meet p.plain q.plain; cell = cell_meet p.cell q.cell; tuples = tuples_meet p.tuples q.tuples }

  abbrev pub parts_join : Parts E → Parts E → Parts E
  parts_join p q = record { plain = plain_join p.plain q.plain; cell = cell_join p.cell q.cell; tuples = tuples_join p.tuples q.tuples }

  abbrev pub parts_only : Parts E → Option (List Name)
  parts_only p = cond (is_only_atoms p) (names.members_of p.plain.atoms) None

  abbrev pub next : Ops (Parts E)
  next = record {
    none = of_plain plain_none;
    any = parts_any;
    is_none = parts_is_none;
    meet = parts_meet;
    join = parts_join;
    has_atom = λ p a. names.has p.plain.atoms a;
    only = parts_only;
    of_names = λ xs. of_atoms (names.or_else xs names.every);
    has_tags = true;
  }

-- none and any
abbrev pub base : Ops Bool
base = record {
  none = false;
  any = true;
  is_none = not;
  meet = ◌&&◌;
  join = ◌||◌;
  has_atom = λ t a. t;
  only = λ t. None;
  of_names = λ xs. true;
  has_tags = false;
}

-- the operations of each level
unfoldable pub ops : (d : ℕ) → Ops (TypeAt d)
ops zero = base
ops (suc d) = next (ops d)
