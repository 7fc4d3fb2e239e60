-- Products of element types: how far one can go down from them, to the products at whose positions one can only come to nothing.
use Rattle.std.proofs.Common.{◌≡◌, ◌<◌, ℕ, zero, suc, List, [], ◌∷◌, length, refl, sym, ap, inl, arith}
use Rattle.std.proofs.lemmas.Bool.{false_from_ne_true}
use Rattle.type_lattice_model.specs.Values.{Value, no_value, and_value}
use Rattle.type_lattice_model.specs.HasType.{HasEach}
use Rattle.type_lattice_model.specs.Operations.{Ops}
use Rattle.type_lattice_model.specs.Normal.{IsElement, AreElements}
use Rattle.type_lattice_model.specs.Laws.{BelowBy, Laws}
use Rattle.type_lattice_model.proofs.PlainLaws.{Lower}
use Rattle.type_lattice_model.proofs.CellLaws.{value_of, filled-not_none}
use Rattle.type_lattice_model.proofs.RowLaws.{BelowEach}
use Rattle.type_lattice_heights.specs.Heights.{one_less, row_height}
use Rattle.type_lattice_heights.proofs.Ways.{Way, no_step, way_then, way_as, way_last, way_lift}
use Rattle.type_lattice_heights.proofs.Levels.{Heights, some_height}

pub less_is : (n : ℕ) → 0 < n → n ≡ suc (one_less n)
less_is zero h = absurd (omega (arith, h))
less_is (suc n) h = refl

-- a product of n element types
abbrev pub IsRow : {E : Type 0} → (E → Type 0) → Ops E → ℕ → List E → Type 0
IsRow Normal o n es = (length es ≡ n) × AreElements Normal o es

module _ {E : Type 0} (Has : Value → E → Type 0) where
  pub first_below : (es : List E) (x y : E) → BelowBy Has x y → BelowBy (HasEach Has) (x ∷ es) (y ∷ es)
  first_below es x y b no_value h = absurd h
  first_below es x y b (and_value v vs) h = (b v h.0, h.1)

  pub rest_below : (e : E) (xs ys : List E) → BelowBy (HasEach Has) xs ys → BelowBy (HasEach Has) (e ∷ xs) (e ∷ ys)
  rest_below e xs ys b no_value h = absurd h
  rest_below e xs ys b (and_value v vs) h = (h.0, b vs h.1)

pub first_same : {E : Type 0} (es : List E) (x y : E) → x ∷ es ≡ y ∷ es → x ≡ y
first_same es x y e = cc

pub rest_same : {E : Type 0} (e : E) (xs ys : List E) → e ∷ xs ≡ e ∷ ys → xs ≡ ys
rest_same e xs ys q = cc

module _ {E : Type 0} {Has : Value → E → Type 0} {Normal : E → Type 0} {o : Ops E} (l : Laws Has Normal o) {height tags_in : E → ℕ} (r : Heights Has Normal o height tags_in) where
  abbrev of_row : List E → ℕ
  of_row = row_height height tags_in

  -- what is above an element type is one
  pub element_above : (s u : E) → IsElement Normal o s → Normal u → BelowBy Has s u → IsElement Normal o u
  element_above s u k n b = let v = value_of l s k in (n, filled-not_none l u v.0 (b v.0 v.1))

  not_none : (u : E) → Normal u → (o.none ≡ u → ⊥) → IsElement Normal o u
  not_none u k other = (k, false_from_ne_true (o.is_none u) (λ e. other (sym (l.none-is_none u e))))

  -- an element type goes down to one from which one can only come to nothing
  pub element_way : (e : E) → IsElement Normal o e → (u : E) × (IsElement Normal o u × Way Has Normal (one_less (height e)) u e)
  element_way e k =
      let w = way_last Has Normal (one_less (height e)) o.none e k.0 (way_as Has Normal (height e) (suc (one_less (height e))) o.none e (less_is (height e) (some_height l r e k)) (r.to_none e k.0)) in
      (w.0, (not_none w.0 w.1.0 w.1.2, w.1.3))

  pub row_way : (n : ℕ) (es : List E) → IsRow Normal o n es → (ms : List E) × (IsRow Normal o n ms × Way (HasEach Has) (IsRow Normal o n) (row_height height tags_in es) ms es)
  row_way n [] k = ([], (k, no_step (HasEach Has) (IsRow Normal o n) [] [] refl))
  row_way zero (e ∷ es) k = absurd (omega (arith, k.0))
  row_way (suc n) (e ∷ es) k =
      let first = element_way e k.1.0 in
      let rest = row_way n es (omega (arith, k.0), k.1.1) in
      let u = first.0 in
      let count : length es ≡ n = omega (arith, k.0) in
      let a = way_lift (HasEach Has) (IsRow Normal o (suc n)) (λ x. x ∷ es) u (λ x j b. (k.0, (element_above u x first.1.0 j b, k.1.1))) (λ x y b. first_below Has es x y b) (λ x y q. first_same es x y q)
      (one_less (height e)) e first.1.1 in
      let b = way_lift (HasEach Has) (IsRow Normal o (suc n)) (λ xs. u ∷ xs) rest.0 (λ xs j b. (ap suc j.0, (first.1.0, j.1))) (λ xs ys b. rest_below Has u xs ys b) (λ xs ys q. rest_same u xs ys q) (of_row es) es rest.1.1 in
      (u ∷ rest.0, ((ap suc rest.1.0.0, (first.1.0, rest.1.0.1)), way_then (HasEach Has) (IsRow Normal o (suc n)) (of_row es) (one_less (height e)) (u ∷ rest.0) (u ∷ es) (e ∷ es) b a))

  -- ---- a smaller product has a lower height

  first_lower : (x y : E) (xs ys : List E) (a b : ℕ) → height x ≡ suc a → height y ≡ suc b → Lower height x y → Lower of_row xs ys → Lower of_row (x ∷ xs) (y ∷ ys)
  first_lower x y xs ys a b p q h k = grind arith

  pub row_lower : (es fs : List E) → AreElements Normal o es → AreElements Normal o fs → BelowEach Has es fs → Lower (row_height height tags_in) es fs
  row_lower [] [] j k f = inl refl
  row_lower (x ∷ xs) (y ∷ ys) j k f =
      first_lower x y xs ys (one_less (height x)) (one_less (height y)) (less_is (height x) (some_height l r x j.0)) (less_is (height y) (some_height l r y k.0)) (r.lower x y j.0.0 k.0.0 f.0) (row_lower xs ys j.1 k.1 f.1)
  row_lower [] (y ∷ ys) j k f = absurd f
  row_lower (x ∷ xs) [] j k f = absurd f
