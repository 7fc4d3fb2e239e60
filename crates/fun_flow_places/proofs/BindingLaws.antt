-- Names and their values, as one list of pairs and as two lists.
use Rattle.std.proofs.Common.{◌≡◌, ℕ, zero, suc, ◌+◌, Bool, true, false, List, [], ◌∷◌, ◌++◌, length, take, drop, Option, Some, None, slice_get, refl, sym, ap, ◌∙◌, arith}
use Rattle.std.specs.Prelude.{IsSome, ◌↔◌, if◌then◌else◌}
use Rattle.std.specs.List.{list_any, zip}
use Rattle.std.proofs.lemmas.Bool.{false_from_ne_true, or_parts}
use Rattle.type_kinds.proofs.Truths.{or_first}
use Rattle.fun_flow_places.specs.Bindings.{or_outer, value_of}

pub zip_more : {X Y : Type 0} (xs : List X) (ys : List Y) (x : X) (y : Y) → length xs ≡ length ys → zip (xs ++ x ∷ []) (ys ++ y ∷ []) ≡ zip xs ys ++ (x, y) ∷ []
zip_more [] [] x y same = refl
zip_more [] (w ∷ ys) x y same = absurd (omega arith)
zip_more (v ∷ xs) [] x y same = absurd (omega arith)
zip_more (v ∷ xs) (w ∷ ys) x y same = ap (λ l. (v, w) ∷ l) (zip_more xs ys x y (omega arith))

pub zip_take : {X Y : Type 0} (n : ℕ) (xs : List X) (ys : List Y) → zip (take n xs) (take n ys) ≡ take n (zip xs ys)
zip_take zero xs ys = refl
zip_take (suc n) [] ys = refl
zip_take (suc n) (x ∷ xs) [] = refl
zip_take (suc n) (x ∷ xs) (y ∷ ys) = ap (λ l. (x, y) ∷ l) (zip_take n xs ys)

-- ---- the innermost binding

module _ {T V : Type 0} (eq : T → T → Bool) where
  -- no binding of a name
  pub unbound : (xs : List T) (vs : List V) (x : T) → list_any (eq x) xs ≡ false → value_of eq (zip xs vs) x ≡ None
  unbound [] vs x none = refl
  unbound (y ∷ xs) [] x none = refl
  unbound (y ∷ xs) (v ∷ vs) x none =
      let parts = or_parts (eq x y) (list_any (eq x) xs) none in
      ap (λ o. or_outer o (if eq x y then Some v else None)) (unbound xs vs x parts.1) ∙ ap (λ b. if b then Some v else None) parts.0

  -- the innermost binding, by the position where it stands
  at_position : (p : ℕ) (xs : List T) (vs : List V) (x : T) → length xs ≡ length vs → list_any (eq x) (drop p xs) ≡ true → list_any (eq x) (drop (suc p) xs) ≡ false
      → (v : V) × ((slice_get vs p ≡ Some v) × (value_of eq (zip xs vs) x ≡ Some v))
  at_position zero [] vs x same there innermost = absurd cc
  at_position (suc p) [] vs x same there innermost = absurd cc
  at_position p (y ∷ xs) [] x same there innermost = absurd (omega arith)
  at_position zero (y ∷ xs) (v ∷ vs) x same there innermost = (
    v,
    (
      refl,
      ap (λ o. or_outer o (if eq x y then Some v else None)) (unbound xs vs x innermost) ∙ ap (λ b. if b then Some v else None) (or_first (eq x y) (list_any (eq x) xs) there innermost),
    ),
  )
  at_position (suc p) (y ∷ xs) (v ∷ vs) x same there innermost =
      let rest = at_position p xs vs x (omega arith) there innermost in
      (rest.0, (rest.1.0, ap (λ o. or_outer o (if eq x y then Some v else None)) rest.1.1))

  pub found_value : (p : ℕ) (xs : List T) (vs : List V) (bs : List (T × V)) (x : T) (o : Option V) → zip xs vs ≡ bs → length xs ≡ length vs → list_any (eq x) (drop p xs) ≡ true
      → list_any (eq x) (drop (p + 1) xs) ≡ false → o ≡ slice_get vs p → o ≡ value_of eq bs x
  found_value p xs vs bs x o view same there innermost got =
      let at = at_position p xs vs x same there (ap (λ n. list_any (eq x) (drop n xs)) (let e : suc p ≡ p + 1 = omega arith in e) ∙ innermost) in
      got ∙ at.1.0 ∙ sym at.1.1 ∙ ap (λ l. value_of eq l x) view

  pub no_value : (xs : List T) (vs : List V) (bs : List (T × V)) (x : T) (o : Option ℕ) → zip xs vs ≡ bs → o ≡ None → IsSome o ↔ (list_any (eq x) xs ≡ true) → None ≡ value_of eq bs x
  no_value xs vs bs x o view none iff =
      let unset : list_any (eq x) xs ≡ false = false_from_ne_true _ (λ e. let h : IsSome o = iff.1 e in absurd cc) in
      sym (unbound xs vs x unset) ∙ ap (λ l. value_of eq l x) view
