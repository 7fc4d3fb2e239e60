-- The type that a tree of the code stands for, at each level, and which trees stand for one.
use Rattle.std.specs.Prelude.{◌≡◌, ℕ, zero, suc, Bool, true, false, List, map, Option, Some, None}
use Rattle.std.specs.Ordering.{nat_cmp}
use Rattle.type_kinds_sets.specs.Names.{Name}
use Rattle.type_lattice_model.specs.Shapes.{Cell, Body, product, tags, Tuples, sizes, all_tuples, Parts, TypeAt}
use Rattle.type_lattice_model.specs.Operations.{ops}
use Rattle.type_lattice_model.specs.Normal.{NormalCell, NormalRow, AreTags, NormalBody, NormalSizes, NormalTuples, NormalParts, NormalAt}
use Rattle.type_lattice_model.specs.Tables.{EachOf, is_table}
use Rattle.type_lattice_trees.specs.declared.node.Node.{Node, out-Node}
use Rattle.type_lattice_trees.specs.declared.node.Node.TheOpen.{Node-F}
use Rattle.type_lattice_trees.specs.declared.node.PartsOf.{PartsOf}
use Rattle.type_lattice_trees.specs.declared.node.CellOf.{CellOf}
use Rattle.type_lattice_trees.specs.declared.node.TuplesOf.{TuplesOf}
use Rattle.type_lattice_trees.specs.declared.node.TuplesOf.TheVariants.{All, Sizes}
use Rattle.type_lattice_trees.specs.declared.node.SizeOf.{SizeOf}
use Rattle.type_lattice_trees.specs.declared.node.BodyOf.{BodyOf}
use Rattle.type_lattice_trees.specs.declared.node.BodyOf.TheVariants.{Product, Tags}
use Rattle.type_lattice_trees.specs.declared.node.TagOf.{TagOf}

-- one level, with what the elements stand for
module _ {A E : Type 0} (f : A → E) where
  abbrev pub tags_of : List (TagOf A) → List (Name × List E)
  tags_of ts = map (λ (t : TagOf A). (t.atom, map f t.rest)) ts

  abbrev pub body_of : BodyOf A → Body E
  body_of (Product es) = product (map f es)
  body_of (Tags ts) = tags (tags_of ts)

  abbrev pub sizes_of : List (SizeOf A) → List (ℕ × Body E)
  sizes_of ss = map (λ (s : SizeOf A). (s.size, body_of s.body)) ss

  abbrev pub tuples_of : TuplesOf A → Tuples E
  tuples_of All = all_tuples
  tuples_of (Sizes ss) = sizes (sizes_of ss)

  abbrev pub cell_of : Option (CellOf A) → Option (Cell E)
  cell_of None = None
  cell_of (Some c) = Some (record { element = f c.element; is_proper = c.is_proper })

  abbrev pub parts_of : PartsOf A → Parts E
  parts_of p = record { plain = p.plain; cell = cell_of p.cell; tuples = tuples_of p.tuples }

abbrev pub layer : {A E : Type 0} → Parts E → (A → E) → Node-F A → Parts E
layer any f Node-F.Any = any
layer any f (Node-F.Of p) = parts_of f p

abbrev pub is_any : {A : Type 0} → Node-F A → Bool
is_any Node-F.Any = true
is_any (Node-F.Of p) = false

unfoldable pub view : (d : ℕ) → Node → TypeAt d
view zero n = is_any (out-Node n)
view (suc d) n = layer (ops (suc d)).any (view d) (out-Node n)

-- each element stands for a type
module _ {A : Type 0} (P : A → Type 0) where
  abbrev pub EachNode : List A → Type 0
  EachNode ns = EachOf P ns

  abbrev pub EachTag : List (TagOf A) → Type 0
  EachTag ts = EachOf (λ (t : TagOf A). EachNode t.rest) ts

  abbrev pub EachInBody : BodyOf A → Type 0
  EachInBody (Product es) = EachNode es
  EachInBody (Tags ts) = EachTag ts

  abbrev pub EachSize : List (SizeOf A) → Type 0
  EachSize ss = EachOf (λ (s : SizeOf A). EachInBody s.body) ss

  abbrev pub EachInTuples : TuplesOf A → Type 0
  EachInTuples All = Unit {0}
  EachInTuples (Sizes ss) = EachSize ss

  abbrev pub EachInCell : Option (CellOf A) → Type 0
  EachInCell None = Unit {0}
  EachInCell (Some c) = P c.element

  abbrev pub EachInParts : PartsOf A → Type 0
  EachInParts p = EachInCell p.cell × EachInTuples p.tuples

-- parts of a level that stand for a type in normal form
abbrev pub IsPartsOf : {A E : Type 0} → (Parts E → Type 0) → (A → E) → (A → Type 0) → PartsOf A → Type 0
IsPartsOf Normal f P p = Normal (parts_of f p) × EachInParts P p

abbrev pub IsLayer : {A E : Type 0} → (Parts E → Type 0) → Parts E → (A → E) → (A → Type 0) → Node-F A → Type 0
IsLayer Normal any f P Node-F.Any = Unit {0}
IsLayer Normal any f P (Node-F.Of p) = IsPartsOf Normal f P p × (parts_of f p ≡ any → ⊥)

-- a tree that stands for a type of the level. At level 0 it is every value: none is no element. Above, parts aren't all full,
-- since that is every value
unfoldable pub Fits : (d : ℕ) → Node → Type 0
Fits zero n = is_any (out-Node n) ≡ true
Fits (suc d) n = IsLayer (NormalAt (suc d)) (ops (suc d)).any (view d) (Fits d) (out-Node n)

-- ---- the same for the parts of a type, whose elements are of level d

abbrev pub row_view : (d : ℕ) → List Node → List (TypeAt d)
row_view d es = map (view d) es

abbrev pub tags_view : (d : ℕ) → List (TagOf Node) → List (Name × List (TypeAt d))
tags_view d ts = tags_of (view d) ts

abbrev pub body_view : (d : ℕ) → BodyOf Node → Body (TypeAt d)
body_view d b = body_of (view d) b

abbrev pub sizes_view : (d : ℕ) → List (SizeOf Node) → List (ℕ × Body (TypeAt d))
sizes_view d ss = sizes_of (view d) ss

abbrev pub tuples_view : (d : ℕ) → TuplesOf Node → Tuples (TypeAt d)
tuples_view d t = tuples_of (view d) t

abbrev pub cell_view : (d : ℕ) → Option (CellOf Node) → Option (Cell (TypeAt d))
cell_view d c = cell_of (view d) c

abbrev pub parts_view : (d : ℕ) → PartsOf Node → Parts (TypeAt d)
parts_view d p = parts_of (view d) p

-- what a tag and a size stand for, with its key
abbrev pub tag_entry : (d : ℕ) → TagOf Node → Name × List (TypeAt d)
tag_entry d t = (t.atom, row_view d t.rest)

abbrev pub size_entry : (d : ℕ) → SizeOf Node → ℕ × Body (TypeAt d)
size_entry d s = (s.size, body_view d s.body)

-- n element types
pub record RowFits (d n : ℕ) (es : List Node) : Type 0 where
  pub normal : NormalRow (NormalAt d) (ops d) n (Some (row_view d es))
  pub each : EachNode (Fits d) es

-- tags, each with n element types after it; there may be too many
pub record TagsFit (d n : ℕ) (ts : List (TagOf Node)) : Type 0 where
  pub normal : AreTags (NormalAt d) (ops d) n (tags_view d ts)
  pub each : EachTag (Fits d) ts

-- the tuples of n elements
pub record BodyFits (d n : ℕ) (b : BodyOf Node) : Type 0 where
  pub normal : NormalBody (NormalAt d) (ops d) n (Some (body_view d b))
  pub each : EachInBody (Fits d) b

-- sizes; there may be too many
pub record SizesFit (d : ℕ) (ss : List (SizeOf Node)) : Type 0 where
  pub table : is_table nat_cmp (sizes_view d ss) ≡ true
  pub normal : NormalSizes (NormalAt d) (ops d) (sizes_view d ss)
  pub each : EachSize (Fits d) ss

pub record TuplesFit (d : ℕ) (t : TuplesOf Node) : Type 0 where
  pub normal : NormalTuples (NormalAt d) (ops d) (tuples_view d t)
  pub each : EachInTuples (Fits d) t

pub record CellFits (d : ℕ) (c : Option (CellOf Node)) : Type 0 where
  pub normal : NormalCell (NormalAt d) (ops d) (cell_view d c)
  pub each : EachInCell (Fits d) c

pub record PartsFit (d : ℕ) (p : PartsOf Node) : Type 0 where
  pub normal : NormalParts (NormalAt d) (ops d) (parts_view d p)
  pub each : EachInParts (Fits d) p
