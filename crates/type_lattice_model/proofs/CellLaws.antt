-- The laws of the lists of a type, told by an element type and by how they end.
use Rattle.std.proofs.Common.{sym, ◌∙◌, true≢false, subst, arith, inl, inr, ◌≡◌, ◌↔◌, true, false, ◌&&◌, Option, Some, None, refl, []}
use Rattle.std.proofs.lemmas.Bool.{false_from_ne_true, true_from_ne_false}
use Rattle.type_lattice_model.specs.Values.{Value, atom, nil, Values, no_value, and_value, heads}
use Rattle.type_lattice_model.specs.Shapes.{Cell}
use Rattle.type_lattice_model.specs.HasType.{HasAll, HasCell}
use Rattle.type_lattice_model.specs.Operations.{Ops, cell_meet, cell_join}
use Rattle.type_lattice_model.specs.Normal.{IsElement, NormalCell}
use Rattle.type_lattice_model.specs.Laws.{BelowBy, Lattice, Laws}
use Rattle.type_lattice_model.proofs.LeastLaws.{IsLeast, IsJust, InBoth, InEither, meet-just, lattice_of}

module _ {E : Type 0} {Has : Value → E → Type 0} {Normal : E → Type 0} {o : Ops E} (l : Laws Has Normal o) where
  -- ---- element types

  -- an element type has a value
  pub value_of : (e : E) → IsElement Normal o e → (v : Value) × Has v e
  value_of e k = grind arith

  -- what has a value is not none
  pub filled-not_none : (e : E) (v : Value) → Has v e → o.is_none e ≡ false
  filled-not_none e v h = false_from_ne_true (o.is_none e) (λ k. l.lattice.none_empty v (subst (Has v) (l.none-is_none e k) h))

  pub element-join : (e f : E) → IsElement Normal o e → IsElement Normal o f → IsElement Normal o (o.join e f)
  element-join e f j k =
      let w = value_of e j in
      (l.lattice.join_normal e f j.0 k.0, filled-not_none (o.join e f) w.0 (l.lattice.join_left e f j.0 k.0 w.0 w.1))

  -- ---- all the heads of a list

  pub all-more : (e f : E) → BelowBy Has e f → (vs : Values) → HasAll Has vs e → HasAll Has vs f
  all-more e f b no_value h = h
  all-more e f b (and_value v vs) h = (b v h.0, all-more e f b vs h.1)

  all-meet : (e f : E) → Normal e → Normal f → (vs : Values) → HasAll Has vs (o.meet e f) ↔ (HasAll Has vs e × HasAll Has vs f)
  all-meet e f j k no_value = grind arith
  all-meet e f j k (and_value v vs) =
      let m = meet-just l.lattice e f j k in
      let r = all-meet e f j k vs in
      (λ h. let a = m.leave v h.0 in let b = r.0 h.1 in ((a.0, b.0), (a.1, b.1)), λ h. (m.enter v (h.0.0, h.1.0), r.1 (h.0.1, h.1.1)))

  -- ---- lists that aren't empty

  abbrev HasC : Value × Value → Option (Cell E) → Type 0
  HasC = HasCell Has

  abbrev NormalC : Option (Cell E) → Type 0
  NormalC = NormalCell Normal o

  -- what it means that the lists of one cell are all among those of another
  pub cell-below : (s t : Cell E) → IsElement Normal o s.element → BelowBy (HasCell Has) (Some s) (Some t) → BelowBy Has s.element t.element × (t.is_proper ≡ true → s.is_proper ≡ true)
  cell-below s t k f = (
    λ v h. (f (v, nil) ((h, tt), λ e. refl)).0.0,
    λ h. let w = value_of s.element k in true_from_ne_false s.is_proper (λ e. cc ((f (w.0, atom []) ((w.1, tt), λ r. absurd (true≢false (sym r ∙ e)))).1 h)),
  )

  cell_same : (s t : Cell E) → NormalC (Some s) → NormalC (Some t) → BelowBy HasC (Some s) (Some t) → BelowBy HasC (Some t) (Some s) → s ≡ t
  cell_same s t j k f g =
      let x = cell-below s t j f in
      let y = cell-below t s k g in
      grind (arith, l.lattice.same s.element t.element j.0 k.0 x.0 y.0)

  cell_meet_is : (s t : Cell E) → NormalC (Some s) → NormalC (Some t) → (p : Value × Value) → HasC p (cell_meet o (Some s) (Some t)) ↔ (HasC p (Some s) × HasC p (Some t))
  cell_meet_is s t j k p = grind (arith, all-meet s.element t.element j.0 k.0 (and_value p.0 (heads p.1)), filled-not_none (o.meet s.element t.element) p.0)

  cell_meets : (s t : Cell E) → NormalC (Some s) → NormalC (Some t) → IsJust HasC NormalC (InBoth HasC (Some s) (Some t)) (cell_meet o (Some s) (Some t))
  cell_meets s t j k = record { normal = grind (arith, NormalC, l.lattice.meet_normal); enter = λ p. (cell_meet_is s t j k p).1; leave = λ p. (cell_meet_is s t j k p).0 }

  cell_joins : (s t : Cell E) → NormalC (Some s) → NormalC (Some t) → IsLeast (λ p c. HasC p (Some c)) (λ c. NormalC (Some c)) (InEither HasC (Some s) (Some t))
      (record { element = o.join s.element t.element; is_proper = s.is_proper && t.is_proper })
  cell_joins s t j k = record {
    normal = element-join s.element t.element j k;
    above = λ p h.
        let vs = and_value p.0 (heads p.1) in
        let left = all-more s.element (o.join s.element t.element) (l.lattice.join_left s.element t.element j.0 k.0) vs in
        let right = all-more t.element (o.join s.element t.element) (l.lattice.join_right s.element t.element j.0 k.0) vs in
        grind (arith, left, right);
    least = λ u n f p h.
        let x = cell-below s u j (λ q i. f q (inl i)) in
        let y = cell-below t u k (λ q i. f q (inr i)) in
        grind (arith, all-more (o.join s.element t.element) u.element (l.lattice.join_least s.element t.element u.element j.0 k.0 n.0 x.0 y.0) (and_value p.0 (heads p.1)));
  }

  pub cell_lattice : Lattice (HasCell Has) (NormalCell Normal o) None (cell_meet o) (cell_join o)
  cell_lattice = lattice_of tt (λ p h. h) (λ c k. let w = value_of c.element k in ((w.0, nil), ((w.1, tt), λ e. refl))) cell_same cell_meets cell_joins
