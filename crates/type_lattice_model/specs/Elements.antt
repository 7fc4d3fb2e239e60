-- The elements of tuples at some positions, over all sizes.
use Rattle.std.specs.Prelude.{ℕ, suc, pos, cond, List, [], ◌∷◌, ◌++◌}
use Rattle.type_kinds_sets.specs.Numbers as numbers
use Rattle.type_kinds_sets.specs.Numbers.{Numbers}
use Rattle.type_lattice_model.specs.Shapes.{Body, Tuples, sizes, all_tuples, TypeAt}
use Rattle.type_lattice_model.specs.Operations.{Ops, elements, ops}
use Rattle.type_lattice_model.specs.Cut.{cut}

-- those of the element types whose positions are in the set, where the first of them stands at position i
abbrev pub at_positions : {E : Type 0} → Numbers → ℕ → List E → List E
at_positions s i [] = []
at_positions s i (e ∷ es) = cond (numbers.has s (pos i)) (e ∷ at_positions s (suc i) es) (at_positions s (suc i) es)

-- those of all sizes. The first element of a tuple is at position 1, and positions outside a size don't count
abbrev pub sizes_at : {E : Type 0} → Ops E → Numbers → List (ℕ × Body E) → List E
sizes_at o s [] = []
sizes_at o s (b ∷ m) = at_positions s 1 (elements o b.1) ++ sizes_at o s m

-- a type joined with those of some things, one after the other
abbrev pub joined_all : {P X : Type 0} → (P → P → P) → (X → P) → P → List X → P
joined_all join of t [] = t
joined_all join of t (x ∷ xs) = joined_all join of (join t (of x)) xs

-- the join of a type and of some element types
abbrev pub with_elements : (d : ℕ) → TypeAt (suc d) → List (TypeAt d) → TypeAt (suc d)
with_elements d t es = joined_all (ops (suc d)).join (cut d (suc d)) t es

-- the join of the elements at these positions, over all sizes; any for all tuples
abbrev pub tuples_at : (d : ℕ) → Tuples (TypeAt d) → Numbers → TypeAt (suc d)
tuples_at d (sizes m) s = with_elements d (ops (suc d)).none (sizes_at (ops d) s m)
tuples_at d all_tuples s = (ops (suc d)).any

abbrev pub elements_at : (d : ℕ) → TypeAt (suc d) → Numbers → TypeAt (suc d)
elements_at d t s = tuples_at d t.tuples s
