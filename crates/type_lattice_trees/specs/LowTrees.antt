-- Trees that stand at a lower level as they are.
use Rattle.std.specs.Prelude.{◌≡◌, ℕ, ◌<◌, List}
use Rattle.type_lattice_model.specs.Cut.{cut}
use Rattle.type_lattice_model.specs.Tables.{EachOf}
use Rattle.type_lattice_trees.specs.declared.node.Node.{Node}
use Rattle.type_lattice_trees.specs.declared.node.PartsOf.{PartsOf}
use Rattle.type_lattice_trees.specs.declared.node.SizeOf.{SizeOf}
use Rattle.type_lattice_trees.specs.declared.node.TuplesOf.{TuplesOf}
use Rattle.type_lattice_trees.specs.declared.node.TuplesOf.TheVariants.{All, Sizes}
use Rattle.type_lattice_trees.specs.declared.node.BodyOf.{BodyOf}
use Rattle.type_lattice_trees.specs.declared.node.BodyOf.TheVariants.{Product, Tags}
use Rattle.type_lattice_trees.specs.View.{view, Fits, EachNode, EachTag, EachInCell}

-- Of whatever level the tree is, it stands at this one for the least type that has the values of the one that it stands for there.
abbrev pub IsLow : ℕ → Node → Type 0
IsLow d n = (e : ℕ) → Fits e n → Fits d n × (view d n ≡ cut e d (view e n))

-- there are no tags at level 0
abbrev pub IsLowBody : ℕ → BodyOf Node → Type 0
IsLowBody d (Product es) = EachNode (IsLow d) es
IsLowBody d (Tags ts) = EachTag (IsLow d) ts × (0 < d)

abbrev pub AreLowSizes : ℕ → List (SizeOf Node) → Type 0
AreLowSizes d ss = EachOf (λ (s : SizeOf Node). IsLowBody d s.body) ss

abbrev pub AreLowTuples : ℕ → TuplesOf Node → Type 0
AreLowTuples d All = Unit {0}
AreLowTuples d (Sizes ss) = AreLowSizes d ss

-- the elements are of this level
abbrev pub AreLowParts : ℕ → PartsOf Node → Type 0
AreLowParts d p = EachInCell (IsLow d) p.cell × AreLowTuples d p.tuples
