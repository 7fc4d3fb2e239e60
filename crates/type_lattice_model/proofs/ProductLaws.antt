-- The type of some types' tuples has only tuples: up to 64 elements exactly those of the types cut to the level of elements.
use Rattle.std.proofs.Common.{◌≡◌, ℕ, zero, suc, true, false, List, [], ◌∷◌, map, length, Some, refl, sym, subst, true≢false, arith, ◌↔◌, nat_lt}
use Rattle.std.proofs.lemmas.List.{length-map}
use Rattle.std.proofs.lemmas.Bool.{false_from_ne_true}
use Rattle.type_kinds_sets.specs.Ascending.{has_item}
use Rattle.type_kinds_sets.specs.Names.{Name, name_cmp, are_listed}
use Rattle.type_kinds_sets.proofs.NameLaws.{has-listed}
use Rattle.type_lattice_model.specs.Values.{Value, atom, tuple, Values, no_value, and_value}
use Rattle.type_lattice_model.specs.Tables.{keys, find}
use Rattle.type_lattice_model.specs.Shapes.{Body, product, tags, sizes, TypeAt}
use Rattle.type_lattice_model.specs.HasType.{HasEach, HasTag, HasBody, HasTuple, HasAt}
use Rattle.type_lattice_model.specs.Operations.{Ops, has_none, body_of, ops}
use Rattle.type_lattice_model.specs.Normal.{AreElements, NormalRow, NormalBody, NormalAt}
use Rattle.type_lattice_model.specs.Cut.{body_lower, tuples_lower, cut}
use Rattle.type_lattice_model.specs.Parts.{AreNormal, product_of, tuple_at}
use Rattle.type_lattice_model.specs.Laws.{BelowBy, Laws, Lowering}
use Rattle.type_lattice_model.proofs.RowLaws.{values_of, count_each}
use Rattle.type_lattice_model.proofs.BodyLaws.{first_tag, tags-listed, rows_at, body_of_in, body_of_out, body_of_normal}
use Rattle.type_lattice_model.proofs.LevelLaws.{level_laws}
use Rattle.type_lattice_model.proofs.CutLaws.{found, body_are, cut_lowering}
use Rattle.type_lattice_model.proofs.MadeLaws.{are_elements}

-- ---- a product and its image on a lower level

-- the least type of some atoms has no others, where there may be tags
abbrev NamesAlone : {E : Type 0} → (Value → E → Type 0) → Ops E → Type 0
NamesAlone Has o = o.has_tags ≡ true → (xs : List Name) → are_listed xs ≡ true → (v : Value) → Has v (o.of_names xs) → (a : Name) × ((v ≡ atom a) × (has_item name_cmp xs a ≡ true))

module _ {F E : Type 0} {HasF : Value → F → Type 0} {NormalF : F → Type 0} {f : Ops F} (high : Laws HasF NormalF f) {HasE : Value → E → Type 0} {NormalE : E → Type 0} {e : Ops E} (low : Laws HasE NormalE e) {lower : F
    → E} (s : Lowering HasF NormalF HasE NormalE lower) (alone : NamesAlone HasE e) where
  -- a body that has a product has the product of the element types on the lower level: where its first elements are tags, the
  -- first type is a set of atoms, and stays one
  product_below : (n : ℕ) (es : List F) (u : Body E) → NormalRow NormalF f n (Some es) → NormalBody NormalE e n (Some u) → ((vs : Values) → HasEach HasF vs es → HasBody HasE vs (Some u)) → (vs : Values)
      → HasEach HasE vs (map lower es) → HasBody HasE vs (Some u)
  product_below n es (product gs) k i p vs h = (found high low s n (Some es) k).least (Some gs) i.0 p vs h
  product_below zero es (tags w) k i p vs h = absurd i
  product_below (suc n) [] (tags w) k i p vs h = absurd (omega (arith, k.0))
  product_below (suc n) (t ∷ ts) (tags w) k i p no_value h = absurd h
  product_below (suc n) (t ∷ ts) (tags w) k i p (and_value v vs) h =
      let us = values_of high ts k.1.1 in
      let xs : (x : List Name) × (f.only t ≡ Some x) = grind (arith, (high.naming.only_found t k.1.0.0 k.1.0.1 (keys w) (tags-listed NormalE e n w i) (λ x y. first_tag HasE x us.0 w (p (and_value x us.0) (y, us.1))))) in
      let within : BelowBy HasE (lower t) (e.of_names xs.0) = s.least t (e.of_names xs.0) k.1.0.0 (low.naming.names_normal xs.0) (λ x y.
      let a = high.naming.only_out t xs.0 xs.1 x y in
      subst (λ z. HasE z (e.of_names xs.0)) (sym a.1.0) (low.naming.names_in xs.0 a.0 a.1.1)) in
      let a = alone i.2 xs.0 (high.naming.only_listed t xs.0 xs.1) v (within v h.0) in
      let row = (found high low s n (Some ts) (omega (arith, k.0), k.1.1)).least (find name_cmp w a.0) (rows_at low n w i.0.2 a.0) (λ ws y. p (and_value (atom a.0) ws) (high.naming.only_in t xs.0 xs.1 a.0 a.1.1, y)) vs h.1 in
      subst (λ z. HasTag HasE (and_value z vs) w) {x = atom a.0} (sym {b = atom a.0} a.1.0) row

  body_is : (n : ℕ) (es : List F) → NormalRow NormalF f n (Some es) → (vs : Values) → HasBody HasE vs (Some (body_lower lower f e (body_of f es))) ↔ HasEach HasE vs (map lower es)
  body_is n es k vs =
      let b = body_are high low s n (body_of f es) (body_of_normal high n es k) in
      let r = found high low s n (Some es) k in (
        λ h. body_of_out low (map lower es) vs (b.least (body_of e (map lower es)) (body_of_normal low n (map lower es) r.normal) (λ us m. body_of_in low (map lower es) us (r.above us (body_of_out high es us m))) vs h),
        product_below n es (body_lower lower f e (body_of f es)) k b.normal (λ us m. b.above us (body_of_in high es us m)) vs,
      )

  -- what has a value on the lower level has one on the upper
  no_none : (es : List F) → AreNormal NormalF es → (vs : Values) → HasEach HasE vs (map lower es) → has_none f es ≡ false
  no_none [] k vs h = refl
  no_none (t ∷ ts) k no_value h = absurd h
  no_none (t ∷ ts) k (and_value v vs) h =
      rw (false_from_ne_true (f.is_none t) (λ q. low.lattice.none_empty v (s.least t e.none k.0 low.lattice.none_normal (λ w x. absurd (high.lattice.none_empty w (subst (HasF w) (high.none-is_none t q) x))) v h.0)))
      (no_none ts k.1 vs h.1)

  -- the tuples of a product, on the lower level
  tuples_is : (es : List F) → AreElements NormalF f es → (vs : Values) → HasTuple HasE vs (tuples_lower lower f e (sizes ((length es, body_of f es) ∷ []))) ↔ HasEach HasE vs (map lower es)
  tuples_is es k vs = grind (arith, body_is (length es) es (refl, k) vs, count_each low vs (map lower es), length-map es lower)

  product-exact : (es : List F) → AreNormal NormalF es → nat_lt (length es) 65 ≡ true → (vs : Values) → HasTuple HasE vs (tuples_lower lower f e (product_of f es).tuples) ↔ HasEach HasE vs (map lower es)
  product-exact es k few vs = grind (arith, tuples_is es, no_none es k vs, are_elements high es k)

-- ---- each level

pub names_alone : (d : ℕ) → NamesAlone (HasAt d) (ops d)
unfolding ops
names_alone zero t xs few v h = absurd (true≢false (sym t))
names_alone (suc d) t xs few v h = grind (arith, has-listed)

-- up to 64 types, their tuples are those of the types cut to the level of elements
pub tuple-exact : (d : ℕ) (es : List (TypeAt (suc d))) → AreNormal (NormalAt (suc d)) es → nat_lt (length es) 65 ≡ true → (vs : Values)
    → HasAt (suc d) (tuple vs) (tuple_at (suc d) es) ↔ HasEach (HasAt d) vs (map (cut (suc d) d) es)
unfolding cut
tuple-exact d es k few vs =
    product-exact (level_laws (suc d)) (level_laws d) (cut_lowering (suc d) d) (names_alone d) es k few vs

-- each value of a type of tuples is a tuple
pub tuple-only : (d : ℕ) (es : List (TypeAt (suc d))) (v : Value) → HasAt (suc d) v (tuple_at (suc d) es) → (vs : Values) × (v ≡ tuple vs)
unfolding cut
tuple-only d es v h = grind arith
