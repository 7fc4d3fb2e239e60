-- Lists that have the same item at every position are one.
use Rattle.std.proofs.Common.{◌≡◌, ◌↔◌, Bool, false, IsTrue, true≢false, ℕ, zero, suc, ◌<◌, ◌≤◌, List, [], ◌∷◌, length, slice_get, Some, refl, sym, ap, ◌∙◌, arith}
use Rattle.std.proofs.lemmas.Option.{same_Some, none-some}

-- the lists have the same item at each position below this one, or neither has one there
abbrev pub SameBelow : {X : Type 0} → List X → List X → ℕ → Type 0
SameBelow xs ys n = (i : ℕ) → i < n → slice_get xs i ≡ slice_get ys i

pub same_everywhere : {X : Type 0} (xs ys : List X) (n : ℕ) → length xs ≤ n → length ys ≤ n → SameBelow xs ys n → xs ≡ ys
same_everywhere [] [] n long longer same = refl
same_everywhere [] (y ∷ ys) n long longer same = absurd (none-some y (same 0 (omega (arith, longer))))
same_everywhere (x ∷ xs) [] n long longer same = absurd (none-some x (sym (same 0 (omega (arith, long)))))
same_everywhere (x ∷ xs) (y ∷ ys) zero long longer same = absurd (omega (arith, long))
same_everywhere (x ∷ xs) (y ∷ ys) (suc n) long longer same =
    let head = same_Some x y (same 0 (omega arith)) in
    let tail = same_everywhere xs ys n (omega (arith, long)) (omega (arith, longer)) (λ i less. same (suc i) (omega (arith, less))) in
    λ i. head i ∷ tail i

-- ---- entries of two tables, at a position of both

module _ {K V : Type 0} (xs ys : List (K × V)) (at : ℕ) (k l : K) (v w : V) where
  there : slice_get xs at ≡ Some (k, v) → slice_get ys at ≡ Some (l, w) → k ≡ l → v ≡ w → slice_get xs at ≡ slice_get ys at
  there is js name value = is ∙ (λ i. Some (name i, value i)) ∙ sym js

  names_one : slice_get xs at ≡ Some (k, v) → slice_get ys at ≡ Some (l, w) → slice_get xs at ≡ slice_get ys at → k ≡ l
  names_one is js same = ap (λ e. e.0) (same_Some (k, v) (l, w) (sym is ∙ same ∙ js))

  values_one : slice_get xs at ≡ Some (k, v) → slice_get ys at ≡ Some (l, w) → slice_get xs at ≡ slice_get ys at → v ≡ w
  values_one is js same = ap (λ e. e.1) (same_Some (k, v) (l, w) (sym is ∙ same ∙ js))

  -- the names are one, and whether the entries are is what a test of their values answers
  pub values_tell : (r : Bool) → slice_get xs at ≡ Some (k, v) → slice_get ys at ≡ Some (l, w) → k ≡ l → (IsTrue r ↔ (v ≡ w)) → IsTrue r ↔ (slice_get xs at ≡ slice_get ys at)
  values_tell r is js name tells = (λ h. there is js name (tells.0 h), λ same. tells.1 (values_one is js same))

  -- the names aren't one, so the entries aren't
  pub names_tell : (r : Bool) → slice_get xs at ≡ Some (k, v) → slice_get ys at ≡ Some (l, w) → r ≡ false → (IsTrue r ↔ (k ≡ l)) → IsTrue r ↔ (slice_get xs at ≡ slice_get ys at)
  names_tell r is js differ tells = (λ h. absurd (true≢false (sym h ∙ differ)), λ same. tells.1 (names_one is js same))
