-- The laws of conses: a type has those of its heads and its tails, which are the least types that say so.
use Rattle.std.proofs.Common.{◌≡◌, ◌∙◌, ℕ, suc, Bool, true, false, Option, Some, None, sym, ap, subst, arith, true≢false, []}
use Rattle.std.specs.Prelude.{◌↔◌}
use Rattle.type_lattice_model.specs.Values.{Value, nil, cons, Values, no_value, and_value, heads, end_of}
use Rattle.type_lattice_model.specs.Shapes.{Cell, sizes, TypeAt}
use Rattle.type_lattice_model.specs.HasType.{HasAll, HasCell, HasParts, HasAt}
use Rattle.type_lattice_model.specs.Operations.{Ops, plain_none, ops}
use Rattle.type_lattice_model.specs.Normal.{NormalCell, NormalAt}
use Rattle.type_lattice_model.specs.Cut.{cut}
use Rattle.type_lattice_model.specs.Parts.{element_with, tail_parts, cons_at, elem_at, tail_at}
use Rattle.type_lattice_model.specs.Laws.{BelowBy}
use Rattle.type_lattice_model.proofs.PlainLaws.{plain-none_empty}
use Rattle.type_lattice_model.proofs.CellLaws.{value_of}
use Rattle.type_lattice_model.proofs.LevelLaws.{level_laws}
use Rattle.type_lattice_model.proofs.CutLaws.{cut_lowering, cut_exact}
use Rattle.type_lattice_model.proofs.MadeLaws.{cell_type, cons-cases, cons-made, cons-normal, lists-is_list}

-- ---- heads and tails of a type

-- the heads are in the element type, and it ends in nil where the list has to
tail_out : {E : Type 0} (Has : Value → E → Type 0) (o : Ops E) (c : Cell E) (y : Value) → HasParts Has y (tail_parts o (Some c)) → HasAll Has (heads y) c.element × (c.is_proper ≡ true → end_of y ≡ nil)
tail_out Has o c y k = grind arith

-- a cons is in a type where its head is among the heads and its tail among the tails
pub cons-parts : (d : ℕ) (s : TypeAt (suc d)) → NormalAt (suc d) s → (x y : Value) → HasAt (suc d) x (elem_at d s) → HasAt (suc d) y (tail_at d s) → HasAt (suc d) (cons x y) s
unfolding NormalAt ops
cons-parts d s k x y h m = grind (arith, tail_out, cut_exact d (suc d) (omega arith), (level_laws (suc d)).lattice.none_empty)

pub elem-least : (d : ℕ) (s : TypeAt (suc d)) → NormalAt (suc d) s → (u : TypeAt (suc d)) → ((x y : Value) → HasAt (suc d) (cons x y) s → HasAt (suc d) x u) → BelowBy (HasAt (suc d)) (elem_at d s) u
unfolding NormalAt ops
elem-least d s k u f x h = grind (arith, f x nil, cut_exact d (suc d) (omega arith), (level_laws (suc d)).lattice.none_empty)

rest-least : (d : ℕ) (c : Option (Cell (TypeAt d))) → NormalCell (NormalAt d) (ops d) c → (u : TypeAt (suc d)) → ((x y : Value) → HasCell (HasAt d) (x, y) c → HasAt (suc d) y u)
    → BelowBy (HasAt (suc d)) (tail_parts (ops d) c) u
unfolding ops
rest-least d None k u f y h = absurd ((level_laws (suc d)).lattice.none_empty y h)
rest-least d (Some c) k u f y h = let w = value_of (level_laws d) c.element k in let t = tail_out (HasAt d) (ops d) c y h in f w.0 y ((w.1, t.0), t.1)

pub tail-least : (d : ℕ) (s : TypeAt (suc d)) → NormalAt (suc d) s → (u : TypeAt (suc d)) → ((x y : Value) → HasAt (suc d) (cons x y) s → HasAt (suc d) y u) → BelowBy (HasAt (suc d)) (tail_at d s) u
unfolding NormalAt
tail-least d s k u f = rest-least d s.cell k.1 u f

-- ---- the lists of a head and a tail

-- a type with a cell alone has conses alone
conses : (d : ℕ) (c : Option (Cell (TypeAt d))) (v : Value) → HasParts (HasAt d) v (record { plain = plain_none; cell = c; tuples = sizes [] }) → (x : Value) × ((y : Value) × ((v ≡ cons x y) × HasCell (HasAt d) (x, y) c))
conses d c v h = grind (arith, plain-none_empty)

-- so has what is made of a head and a tail
made_out : (d : ℕ) (h t : TypeAt (suc d)) (proper : Bool) → BelowBy (HasAt (suc d)) (cons_at d h t proper) (cell_type d h t proper)
made_out d h t proper v =
    cons-cases d h t proper (λ c. HasAt (suc d) v c → HasAt (suc d) v (cell_type d h t proper)) (λ m. absurd ((level_laws (suc d)).lattice.none_empty v m)) (λ e f m. m)

pub cons-only : (d : ℕ) (h t : TypeAt (suc d)) (proper : Bool) (v : Value) → HasAt (suc d) v (cons_at d h t proper) → (x : Value) × ((y : Value) × (v ≡ cons x y))
cons-only d h t proper v m = let w = conses d (cell_type d h t proper).cell v (made_out d h t proper v m) in (w.0, (w.1.0, w.1.1.0))

-- where the tail has proper lists alone, so has what is made with proper ends
pub cons-lists : (d : ℕ) (h t : TypeAt (suc d)) → NormalAt (suc d) t → ((v : Value) → HasAt (suc d) v t → end_of v ≡ nil) → (v : Value) → HasAt (suc d) v (cons_at d h t true) → end_of v ≡ nil
cons-lists d h t k f v m =
    let w = conses d (cell_type d h t true).cell v (made_out d h t true v m) in
    ap end_of w.1.1.0 ∙ w.1.1.1.1 (lists-is_list d t k f)

-- ---- free ends

all_between : {F E : Type 0} (HasF : Value → F → Type 0) (HasE : Value → E → Type 0) (f : F) (e : E) → ((v : Value) → HasF v f → HasE v e) → (vs : Values) → HasAll HasF vs f → HasAll HasE vs e
all_between HasF HasE f e b no_value h = tt
all_between HasF HasE f e b (and_value v vs) h = (b v h.0, all_between HasF HasE f e b vs h.1)

made_free : (d : ℕ) (h t : TypeAt (suc d)) → NormalAt (suc d) h → NormalAt (suc d) t → (ops (suc d)).is_none h ≡ false → (ops (suc d)).is_none t ≡ false → (x y : Value)
    → HasAt (suc d) (cons x y) (cell_type d h t false) ↔ HasAll (HasAt (suc d)) (and_value x (heads y)) (elem_at d (cell_type d h t true))
unfolding NormalAt
made_free d h t j k p q x y =
    let e = element_with (ops d) (cut (suc d) d h) t.cell in
    let n = subst (NormalAt (suc d)) (cons-made d h t true p q) (cons-normal d h t true j k) in (
      λ m. all_between (HasAt d) (HasAt (suc d)) e (cut d (suc d) e) ((cut_lowering d (suc d)).above e n.1.0) (and_value x (heads y)) m.0,
      λ m. (all_between (HasAt (suc d)) (HasAt d) (cut d (suc d) e) e (cut_exact d (suc d) (omega arith) e n.1.0) (and_value x (heads y)) m, λ b. absurd (true≢false (sym b))),
    )

-- with free ends and with proper ones there are lists in the same cases
free-cases : (d : ℕ) (h t : TypeAt (suc d)) (Q : TypeAt (suc d) → TypeAt (suc d) → Type 0) → Q (ops (suc d)).none (ops (suc d)).none
    → ((ops (suc d)).is_none h ≡ false → (ops (suc d)).is_none t ≡ false → Q (cell_type d h t false) (cell_type d h t true)) → Q (cons_at d h t false) (cons_at d h t true)
free-cases d h t Q none made = grind (arith, cell_type)

-- with free ends there is every list whose heads are those of the lists with proper ends
pub cons-free : (d : ℕ) (h t : TypeAt (suc d)) → NormalAt (suc d) h → NormalAt (suc d) t → (x y : Value)
    → HasAt (suc d) (cons x y) (cons_at d h t false) ↔ HasAll (HasAt (suc d)) (and_value x (heads y)) (elem_at d (cons_at d h t true))
unfolding ops
cons-free d h t j k x y =
    let none = (level_laws (suc d)).lattice.none_empty in
    free-cases d h t (λ b c. HasAt (suc d) (cons x y) b ↔ HasAll (HasAt (suc d)) (and_value x (heads y)) (elem_at d c)) (λ m. absurd (none (cons x y) m), λ m. absurd (none x m.0)) (λ p q. made_free d h t j k p q x y)
