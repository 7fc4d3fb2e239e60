-- The normal form: a set of values that the family has, it has in one way.
use Rattle.std.specs.Prelude.{◌≡◌, ℕ, zero, suc, ◌+◌, ◌^◌, true, false, List, [], ◌∷◌, length, nat_lt, Option, Some, None}
use Rattle.std.specs.Ordering.{nat_cmp}
use Rattle.type_kinds_sets.specs.Few.{are_few}
use Rattle.type_kinds_sets.specs.Names.{Name, name_cmp}
use Rattle.type_lattice_model.specs.declared.limits.TheConstants.{MAX_SIZES, MAX_ELEMENTS}
use Rattle.type_lattice_model.specs.Tables.{EachOf, EachEntry, is_table}
use Rattle.type_lattice_model.specs.Shapes.{Functions, no_function, of_arity, all_functions, Cell, Body, product, tags, Tuples, sizes, all_tuples, Parts, TypeAt}
use Rattle.type_lattice_model.specs.Operations.{Ops, is_empty, ops}

-- an arity is below 2^32
abbrev pub NormalFunctions : Functions → Type 0
NormalFunctions no_function = Unit {0}
NormalFunctions (of_arity n) = nat_lt n (2 ^ 32) ≡ true
NormalFunctions all_functions = Unit {0}

module _ {E : Type 0} (Normal : E → Type 0) (o : Ops E) where
  -- an element type has a value
  abbrev pub IsElement : E → Type 0
  IsElement e = Normal e × (o.is_none e ≡ false)

  abbrev pub NormalCell : Option (Cell E) → Type 0
  NormalCell None = Unit {0}
  NormalCell (Some c) = IsElement c.element

  abbrev pub AreElements : List E → Type 0
  AreElements es = EachOf IsElement es

  -- a product of n element types
  abbrev pub NormalRow : ℕ → Option (List E) → Type 0
  NormalRow n None = Unit {0}
  NormalRow n (Some es) = (length es ≡ n) × AreElements es

  -- the first type of a product is no set of atoms that can be tags
  abbrev pub FirstIsOpen : List E → Type 0
  FirstIsOpen [] = Unit {0}
  FirstIsOpen (e ∷ es) = o.only e ≡ None

  abbrev pub NormalRows : ℕ → List (Name × List E) → Type 0
  NormalRows n m = EachEntry (λ a es. NormalRow n (Some es)) m

  -- some tags, ascending, each with the types of n more elements; there may be too many
  abbrev pub AreTags : ℕ → List (Name × List E) → Type 0
  AreTags n m = (is_table name_cmp m ≡ true) × (is_empty m ≡ false) × NormalRows n m

  abbrev pub NormalTags : ℕ → List (Name × List E) → Type 0
  NormalTags zero m = ⊥
  NormalTags (suc n) m = AreTags n m × (are_few m ≡ true) × (o.has_tags ≡ true)

  -- a body of tuples of n elements
  abbrev pub NormalBody : ℕ → Option (Body E) → Type 0
  NormalBody n None = Unit {0}
  NormalBody n (Some (product es)) = NormalRow n (Some es) × FirstIsOpen es
  NormalBody n (Some (tags m)) = NormalTags n m

  abbrev pub NormalSize : ℕ → Body E → Type 0
  NormalSize n b = (nat_lt n (MAX_ELEMENTS + 1) ≡ true) × NormalBody n (Some b)

  abbrev pub NormalSizes : List (ℕ × Body E) → Type 0
  NormalSizes m = EachEntry NormalSize m

  -- at most MAX_SIZES sizes, ascending, of at most MAX_ELEMENTS elements
  abbrev pub NormalTuples : Tuples E → Type 0
  NormalTuples (sizes m) = (is_table nat_cmp m ≡ true) × (nat_lt (length m) (MAX_SIZES + 1) ≡ true) × NormalSizes m
  NormalTuples all_tuples = Unit {0}

  abbrev pub NormalParts : Parts E → Type 0
  NormalParts p = NormalFunctions p.plain.functions × NormalCell p.cell × NormalTuples p.tuples

-- the types of a level in normal form
unfoldable pub NormalAt : (d : ℕ) → TypeAt d → Type 0
NormalAt zero t = Unit {0}
NormalAt (suc d) t = NormalParts (NormalAt d) (ops d) t
