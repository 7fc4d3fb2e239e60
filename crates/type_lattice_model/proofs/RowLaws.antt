-- The laws of products of element types, one for each position.
use Rattle.std.proofs.Common.{sym, ap, ◌∙◌, arith, ◌≡◌, ◌↔◌, ℕ, zero, suc, false, List, [], ◌∷◌, length, Some, None, refl}
use Rattle.type_lattice_model.specs.Values.{Value, Values, no_value, and_value, count}
use Rattle.type_lattice_model.specs.Tables.{both_at, joined}
use Rattle.type_lattice_model.specs.HasType.{HasEach, HasRow}
use Rattle.type_lattice_model.specs.Operations.{Ops, zip, has_none, row_meet, row_join}
use Rattle.type_lattice_model.specs.Normal.{AreElements, NormalRow}
use Rattle.type_lattice_model.specs.Laws.{BelowBy, Lattice, Laws}
use Rattle.type_lattice_model.proofs.LeastLaws.{IsLeast, IsJust, InBoth, InEither, meet-just, lattice_of}
use Rattle.type_lattice_model.proofs.CellLaws.{value_of, filled-not_none, element-join}

-- position by position, each value of the one type is one of the other
abbrev pub BelowEach : {E : Type 0} → (Value → E → Type 0) → List E → List E → Type 0
BelowEach Has [] [] = Unit {0}
BelowEach Has [] (f ∷ fs) = ⊥
BelowEach Has (e ∷ es) [] = ⊥
BelowEach Has (e ∷ es) (f ∷ fs) = BelowBy Has e f × BelowEach Has es fs

pub length-zip : {A : Type 0} (f : A → A → A) (n : ℕ) (xs ys : List A) → length xs ≡ n → length ys ≡ n → length (zip f xs ys) ≡ n
length-zip f n [] ys e g = e
length-zip f n (x ∷ xs) [] e g = g
length-zip f zero (x ∷ xs) (y ∷ ys) e g = absurd (omega arith)
length-zip f (suc n) (x ∷ xs) (y ∷ ys) e g = ap suc (length-zip f n xs ys (omega arith) (omega arith))

module _ {E : Type 0} {Has : Value → E → Type 0} {Normal : E → Type 0} {o : Ops E} (l : Laws Has Normal o) where
  abbrev Elements : List E → Type 0
  Elements = AreElements Normal o

  -- as many values as types
  pub count_each : (vs : Values) (es : List E) → HasEach Has vs es → count vs ≡ length es
  count_each no_value es h = grind arith
  count_each (and_value v vs) es h = grind (arith, count_each vs)

  pub values_of : (es : List E) → AreElements Normal o es → (vs : Values) × HasEach Has vs es
  values_of [] k = (no_value, tt)
  values_of (e ∷ es) k = let v = value_of l e k.0 in let w = values_of es k.1 in (and_value v.0 w.0, (v.1, w.1))

  pub each-more : (es fs : List E) → BelowEach Has es fs → (vs : Values) → HasEach Has vs es → HasEach Has vs fs
  each-more [] [] b vs h = h
  each-more [] (f ∷ fs) b vs h = absurd b
  each-more (e ∷ es) [] b vs h = absurd b
  each-more (e ∷ es) (f ∷ fs) b no_value h = absurd h
  each-more (e ∷ es) (f ∷ fs) b (and_value v vs) h = (b.0 v h.0, each-more es fs b.1 vs h.1)

  -- what it means that the values of one product are all among those of another
  pub each-below : (es fs : List E) → AreElements Normal o es → ((vs : Values) → HasEach Has vs es → HasEach Has vs fs) → BelowEach Has es fs
  each-below [] [] k f = tt
  each-below [] (g ∷ gs) k f = f no_value tt
  each-below (e ∷ es) [] k f = f (and_value (value_of l e k.0).0 (values_of es k.1).0) ((value_of l e k.0).1, (values_of es k.1).1)
  each-below (e ∷ es) (g ∷ gs) k f =
      let v = value_of l e k.0 in
      let w = values_of es k.1 in
      (λ u h. (f (and_value u w.0) (h, w.1)).0, each-below es gs k.1 (λ vs h. (f (and_value v.0 vs) (v.1, h)).1))

  pub each_same : (es fs : List E) → AreElements Normal o es → AreElements Normal o fs → BelowEach Has es fs → BelowEach Has fs es → es ≡ fs
  each_same [] [] j k f g = refl
  each_same [] (y ∷ ys) j k f g = absurd f
  each_same (x ∷ xs) [] j k f g = absurd f
  each_same (x ∷ xs) (y ∷ ys) j k f g = λ i. l.lattice.same x y j.0.0 k.0.0 f.0 g.0 i ∷ each_same xs ys j.1 k.1 f.1 g.1 i

  -- a product that has values has no position without one
  pub row_filled-not_none : (vs : Values) (es : List E) → HasEach Has vs es → has_none o es ≡ false
  row_filled-not_none no_value es h = grind arith
  row_filled-not_none (and_value v vs) es h = grind (arith, row_filled-not_none vs, filled-not_none l)

  -- ---- the meet

  meet_each_elements : (xs ys : List E) → Elements xs → Elements ys → has_none o (zip o.meet xs ys) ≡ false → Elements (zip o.meet xs ys)
  meet_each_elements [] ys j k e = tt
  meet_each_elements (x ∷ xs) [] j k e = tt
  meet_each_elements (x ∷ xs) (y ∷ ys) j k e = grind (arith, meet_each_elements xs ys j.1 k.1, l.lattice.meet_normal x y j.0.0 k.0.0)

  meet_each : (vs : Values) (es fs : List E) → length es ≡ length fs → Elements es → Elements fs → HasEach Has vs (zip o.meet es fs) ↔ (HasEach Has vs es × HasEach Has vs fs)
  meet_each vs [] [] e j k = (λ h. (h, h), λ h. h.0)
  meet_each vs [] (y ∷ ys) e j k = absurd (omega arith)
  meet_each vs (x ∷ xs) [] e j k = absurd (omega arith)
  meet_each no_value (x ∷ xs) (y ∷ ys) e j k = (λ h. (h, h), λ h. h.0)
  meet_each (and_value v vs) (x ∷ xs) (y ∷ ys) e j k =
      let m = meet-just l.lattice x y j.0.0 k.0.0 in
      let r = meet_each vs xs ys (omega arith) j.1 k.1 in
      (λ h. let a = m.leave v h.0 in let b = r.0 h.1 in ((a.0, b.0), (a.1, b.1)), λ h. (m.enter v (h.0.0, h.1.0), r.1 (h.0.1, h.1.1)))

  row_meets : (n : ℕ) (es fs : List E) → NormalRow Normal o n (Some es) → NormalRow Normal o n (Some fs) → IsJust (HasRow Has) (NormalRow Normal o n) (InBoth (HasRow Has) (Some es) (Some fs)) (row_meet o es fs)
  row_meets n es fs j k = record {
    normal = grind (arith, length-zip, meet_each_elements es fs j.1 k.1);
    enter = λ vs h. let z = (meet_each vs es fs (j.0 ∙ sym k.0) j.1 k.1).1 h in rw (row_filled-not_none vs (zip o.meet es fs) z) z;
    leave = λ vs h. (meet_each vs es fs (j.0 ∙ sym k.0) j.1 k.1).0 (grind (arith, h));
  }

  -- ---- the join

  -- the values of the join of two products of one size are those of the least product above both
  each_joins : (es fs : List E) → length es ≡ length fs → Elements es → Elements fs
      → Elements (row_join o es fs) × BelowEach Has es (row_join o es fs) × BelowEach Has fs (row_join o es fs) × ((gs : List E) → Elements gs → BelowEach Has es gs → BelowEach Has fs gs → BelowEach Has (row_join o es fs) gs)
  each_joins [] [] e j k = (tt, tt, tt, λ gs i f g. f)
  each_joins [] (y ∷ ys) e j k = absurd (omega arith)
  each_joins (x ∷ xs) [] e j k = absurd (omega arith)
  each_joins (x ∷ xs) (y ∷ ys) e j k =
      let r = each_joins xs ys (omega arith) j.1 k.1 in
      ((element-join l x y j.0 k.0, r.0), (l.lattice.join_left x y j.0.0 k.0.0, r.1), (l.lattice.join_right x y j.0.0 k.0.0, r.2), least r.3)
    where
      least : ((gs : List E) → Elements gs → BelowEach Has xs gs → BelowEach Has ys gs → BelowEach Has (row_join o xs ys) gs) → (gs : List E) → Elements gs → BelowEach Has (x ∷ xs) gs → BelowEach Has (y ∷ ys) gs
          → BelowEach Has (row_join o (x ∷ xs) (y ∷ ys)) gs
      least r [] i f g = f
      least r (z ∷ zs) i f g = (l.lattice.join_least x y z j.0.0 k.0.0 i.0.0 f.0 g.0, r zs i.1 f.1 g.1)

  row_joins : (n : ℕ) (es fs : List E) → NormalRow Normal o n (Some es) → NormalRow Normal o n (Some fs)
      → IsLeast (λ vs gs. HasRow Has vs (Some gs)) (λ gs. NormalRow Normal o n (Some gs)) (InEither (HasRow Has) (Some es) (Some fs)) (row_join o es fs)
  row_joins n es fs j k = grind (arith, each_joins, length-zip, each-more, each-below)

  pub row_lattice : (n : ℕ) → Lattice (HasRow Has) (NormalRow Normal o n) None (both_at (row_meet o)) (joined (row_join o))
  row_lattice n =
      lattice_of tt (λ vs h. h) (λ es k. values_of es k.1) (λ es fs j k f g. each_same es fs j.1 k.1 (each-below es fs j.1 f) (each-below fs es k.1 g)) (row_meets n) (row_joins n)
