-- Trees of the code, and calls on types, against their model.
use Rattle.std.proofs.Common.{◌≡◌, ℕ, ◌≤◌, Bool, true, false, List, [], ◌∷◌, ◌++◌, refl, arith}
use Rattle.std.specs.Prelude.{◌⊎◌}
use Rattle.type_lattice_model.specs.Shapes.{TypeAt}
use Rattle.type_lattice_model.specs.Operations.{ops, parts_any}
use Rattle.type_lattice_model.specs.Cut as levels
use Rattle.type_lattice_model.specs.Elements.{with_elements}
use Rattle.type_lattice_model.specs.Parts.{element_with}
use Rattle.type_lattice_model.proofs.LevelLaws.{level_laws}
use Rattle.type_lattice_model.proofs.MadeLaws.{cell_type, cons-made}
use Rattle.type_lattice_trees.specs.declared.node.Node.{Node}
use Rattle.type_lattice_trees.specs.declared.node.Node.TheVariants as v
use Rattle.type_lattice_trees.specs.declared.node.PartsOf.{PartsOf}
use Rattle.type_lattice_trees.specs.declared.node.SizeOf.{SizeOf}
use Rattle.type_lattice_trees.specs.declared.node.TuplesOf.TheVariants.{Sizes}
use Rattle.type_lattice_trees.specs.View.{view, parts_view, Fits, EachInCell, CellFits, SizesFit}
use Rattle.type_lattice_trees.proofs.Views.{view_any, view_of, fits_of, fits_normal, normal_parts}
use Rattle.type_lattice_trees.proofs.Inclusions.{sizes_fit}
use Rattle.type_lattice_trees.proofs.Lifts.{lift}
use Rattle.type_lattice.specs.declared.kinds.Ends.{Ends}
use Rattle.type_lattice.specs.declared.kinds.Ends.TheVariants.{Proper}
use Rattle.type_lattice.specs.contracts.kinds.EndsPartialEq.TheImpl as ends
use Rattle.type_lattice.specs.Kinds.{asks_proper}
use Rattle.type_lattice.specs.Types.{Type4, same_type, none, is_none, cut, cons}

-- ---- what a tree stands for, and what is in one that fits

pub any_tree : view 4 v.Any ≡ parts_any (ops 3)
unfolding ops
any_tree = view_any v.Any refl 4

pub parts_tree : (p : PartsOf Node) → view 4 (v.Of p) ≡ parts_view 3 p
parts_tree p = view_of (v.Of p) p refl 3

pub cell_fits : (p : PartsOf Node) → Fits 4 (v.Of p) → CellFits 3 p.cell
cell_fits p k = let q = (fits_of (v.Of p) p refl 3 k).0 in record { normal = q.normal.1; each = q.each.0 }

pub element_fits : (p : PartsOf Node) → Fits 4 (v.Of p) → EachInCell (Fits 3) p.cell
element_fits p k = (cell_fits p k).each

pub sizes_there : (p : PartsOf Node) (ss : List (SizeOf Node)) → Fits 4 (v.Of p) → p.tuples ≡ Sizes ss → SizesFit 3 ss
sizes_there p ss k e = let q = (fits_of (v.Of p) p refl 3 k).0 in sizes_fit 3 p.tuples ss e (record { normal = q.normal.2; each = q.each.1 })

-- one level up
pub fits_up : (n : Node) → Fits 3 n → Fits 4 n
fits_up n k = (lift 3 4 (omega arith) n k).0

pub view_up : (n : Node) → Fits 3 n → view 4 n ≡ levels.cut 3 4 (view 3 n)
view_up n k = (lift 3 4 (omega arith) n k).1

-- above every value there is nothing more
pub join_any : (h : Node) → Fits 3 h → (ops 3).join (view 3 h) (ops 3).any ≡ (ops 3).any
join_any h k =
    let l = level_laws 3 in
    let n = fits_normal 3 h k in
    let any = (ops 3).any in
    l.lattice.same _ any (l.lattice.join_normal (view 3 h) any n l.any_normal) l.any_normal (λ x _. l.any_in x) (l.lattice.join_right (view 3 h) any n l.any_normal)

-- the elements of more sizes
pub with-append : (t : TypeAt 4) (es fs : List (TypeAt 3)) → with_elements 3 t (es ++ fs) ≡ with_elements 3 (with_elements 3 t es) fs
with-append t [] fs = refl
with-append t (e ∷ es) fs = with-append ((ops 4).join t (levels.cut 3 4 e)) es fs

-- ---- cut

-- level 0 is for types that have a value
pub cut_filled : (d : ℕ) (t : Type4) (n : Node) → view 4 n ≡ t.ty → (d ≡ 0 → is_none t ≡ false) → (1 ≤ d) ⊎ ((ops 4).is_none (view 4 n) ≡ false)
unfolding is_none
cut_filled d t n h k = grind arith

-- and none is none at each level
pub cut_none : (d : ℕ) (t r : Type4) → d ≡ 0 → is_none t ≡ true → r ≡ none → r ≡ cut d t
unfolding none is_none cut levels.cut ops
cut_none d t r e f g = rw (e, g) (same_type none (cut 0 t) (rw f refl))

-- ---- lists of types

pub cons_none : (h t r : Type4) (proper : Bool) → (is_none h ≡ true) ⊎ (is_none t ≡ true) → r ≡ none → r ≡ cons h t proper
unfolding none is_none cons
cons_none h t r proper e f = rw f (same_type none (cons h t proper) (grind arith))

pub cons_filled : (h t : Type4) (proper : Bool) → is_none h ≡ false → is_none t ≡ false → (cons h t proper).ty ≡ cell_type 3 h.ty t.ty proper
unfolding is_none cons
cons_filled h t proper e f = cons-made 3 h.ty t.ty proper e f

-- the element type has a value
pub element_filled : (h t : Type4) → is_none h ≡ false → is_none t ≡ false → (ops 3).is_none (element_with (ops 3) (levels.cut 4 3 h.ty) t.ty.cell) ≡ false
element_filled h t p q = (normal_parts 3 (cell_type 3 h.ty t.ty true) (rw (cons_filled h t true p q) at (cons h t true).normal)).1.1

pub ends_asked : (e : Ends) (b : Bool) → b ≡ (ends.ghosts).eq e Proper → asks_proper e ≡ b
ends_asked e b h = grind arith
