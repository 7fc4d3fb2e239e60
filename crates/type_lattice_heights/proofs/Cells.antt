-- Lists that aren't empty: how far one can go down from them, to none.
use Rattle.std.proofs.Common.{◌≡◌, ℕ, ◌+◌, Bool, true, false, cond, Option, Some, None, refl, sym, ap, inl, inr, arith, true≢false}
use Rattle.type_lattice_model.specs.Values.{Value, nil, and_value, heads}
use Rattle.type_lattice_model.specs.Shapes.{Cell}
use Rattle.type_lattice_model.specs.HasType.{HasCell}
use Rattle.type_lattice_model.specs.Operations.{Ops}
use Rattle.type_lattice_model.specs.Normal.{IsElement, NormalCell}
use Rattle.type_lattice_model.specs.Laws.{BelowBy, Laws}
use Rattle.type_lattice_model.proofs.PlainLaws.{Lower}
use Rattle.type_lattice_model.proofs.CellLaws.{value_of, all-more, cell-below}
use Rattle.type_lattice_heights.specs.Heights.{one_less, cell_height}
use Rattle.type_lattice_heights.proofs.Ways.{Way, no_step, one_step, way_then, way_as, way_lift}
use Rattle.type_lattice_heights.proofs.Levels.{Heights, some_height}
use Rattle.type_lattice_heights.proofs.Rows.{less_is, element_above, element_way}

module _ {E : Type 0} {Has : Value → E → Type 0} {Normal : E → Type 0} {o : Ops E} (l : Laws Has Normal o) {height tags_in : E → ℕ} (r : Heights Has Normal o height tags_in) where
  abbrev Are : Option (Cell E) → Type 0
  Are = NormalCell Normal o

  abbrev IsIn : Value × Value → Option (Cell E) → Type 0
  IsIn = HasCell Has

  -- lists of an element type
  abbrev lists : Bool → E → Option (Cell E)
  lists proper e = Some (record { element = e; is_proper = proper })

  abbrev element_of : E → Option (Cell E) → E
  element_of e None = e
  element_of e (Some c) = c.element

  abbrev is_proper_of : Bool → Option (Cell E) → Bool
  is_proper_of b None = b
  is_proper_of b (Some c) = c.is_proper

  lists_below : (x y : E) → BelowBy Has x y → BelowBy IsIn (lists true x) (lists true y)
  lists_below x y b p h = (all-more l x y b (and_value p.0 (heads p.1)) h.0, h.1)

  lists_same : (x y : E) → lists true x ≡ lists true y → x ≡ y
  lists_same x y e = ap (element_of x) e

  proper_way : (e : E) → IsElement Normal o e → Way IsIn Are (height e + 0) None (lists true e)
  proper_way e k =
      let w = element_way l r e k in
      let u = w.0 in
      let a = way_lift IsIn Are (lists true) u (λ x j b. element_above l r u x w.1.0 j b) (λ x y b. lists_below x y b) (λ x y q. lists_same x y q) (one_less (height e)) e w.1.1 in
      let step = one_step IsIn Are None (lists true u) tt (λ p h. absurd h) (λ q. cc) in
      let all = way_then IsIn Are 1 (one_less (height e)) None (lists true u) (lists true e) step a in
      way_as IsIn Are (one_less (height e) + 1) (height e + 0) None (lists true e) (omega (arith, less_is (height e) (some_height l r e k))) all

  lists_way : (proper : Bool) (e : E) → IsElement Normal o e → Way IsIn Are (height e + cond proper 0 1) None (lists proper e)
  lists_way true e k = proper_way e k
  lists_way false e k =
      let step = one_step IsIn Are (lists true e) (lists false e) k (λ p h. (h.0, λ q. absurd (true≢false (sym q)))) (λ q. absurd (true≢false (ap (is_proper_of true) q))) in
      let all = way_then IsIn Are (height e + 0) 1 None (lists true e) (lists false e) (proper_way e k) step in
      way_as IsIn Are (1 + (height e + 0)) (height e + 1) None (lists false e) (omega arith) all

  pub cell_way : (c : Option (Cell E)) → NormalCell Normal o c → Way (HasCell Has) (NormalCell Normal o) (cell_height height tags_in c) None c
  cell_way None k = no_step IsIn Are None None refl
  cell_way (Some c) k = lists_way c.is_proper c.element k

  -- a smaller one has a lower height
  cells_lower : (s t : Cell E) → Lower height s.element t.element → (t.is_proper ≡ true → s.is_proper ≡ true) → Lower (cell_height height tags_in) (Some s) (Some t)
  cells_lower s t h k = grind arith

  pub cell_lower : (s t : Option (Cell E)) → NormalCell Normal o s → NormalCell Normal o t → BelowBy (HasCell Has) s t → Lower (cell_height height tags_in) s t
  cell_lower None None j k f = inl refl
  cell_lower None (Some t) j k f = let some = some_height l r t.element k in inr (omega (arith, some))
  cell_lower (Some s) None j k f = let w = value_of l s.element j in absurd (f (w.0, nil) ((w.1, tt), λ e. refl))
  cell_lower (Some s) (Some t) j k f = let b = cell-below l s t j f in cells_lower s t (r.lower s.element t.element j.0 k.0 b.0) b.1
