-- Sets in the order of insertion as lists of values with numbers.
use Rattle.std.proofs.Common.{◌≡◌, ℕ, zero, suc, inl, inr, Bool, true, false, List, [], ◌∷◌, ◌++◌, position, Option, Some, None, Contains, slice_get, refl, sym, ap, ◌∙◌, subst, true≢false, if◌then◌else◌}
use Rattle.std.specs.Prelude.{IfNone, IfSome, is_some}
use Rattle.std.specs.Cmp.{IsEquivalence}
use Rattle.std.specs.List.{AllByRecursion, IsDistinct, list_any}
use Rattle.std.proofs.lemmas.Bool.{false_from_ne_true, or_parts}
use Rattle.std.proofs.lemmas.List.Quantifiers.{position-Some}
use Rattle.std.proofs.lemmas.Option.{slice_get-get_or}
use Rattle.indexmap.proofs.CallerLemmas.{Contains-list_any}
use Rattle.indexmap.specs.IndexSet.{insert_key}
use Rattle.type_kinds.proofs.Lists.{contains_cases, contains_none}
use Rattle.fun_flow_numbers.specs.steps.Numbers.{AreApart, KeepsNumbers}
use Rattle.fun_flow_numbers.proofs.Growth.{push_keeps}

module _ {T : Type 0} (eq : T → T → Bool) (q : IsEquivalence eq) (same : (x y : T) → eq x y ≡ true → x ≡ y) where
  differs_from : (x : T) (xs : List T) → AllByRecursion (λ y. eq x y ≡ false) xs → (j : ℕ) (z : T) → slice_get xs j ≡ Some z → eq x z ≡ false
  differs_from x [] h j z e = absurd cc
  differs_from x (y ∷ xs) h zero z e = let is : y ≡ z = cc in subst (λ w. eq x w ≡ false) is h.0
  differs_from x (y ∷ xs) h (suc j) z e = differs_from x xs h.1 j z e

  not_later : (x : T) (xs : List T) → AllByRecursion (λ y. eq x y ≡ false) xs → (j : ℕ) (z : T) → x ≡ z → slice_get xs j ≡ Some z → ⊥
  not_later x xs h j z is e = true≢false (sym (q.refl x) ∙ ap (eq x) is ∙ differs_from x xs h j z e)

  pub are_apart : (xs : List T) → IsDistinct eq xs → AreApart xs
  unfolding IsDistinct
  are_apart [] h i j z d e = absurd cc
  are_apart (x ∷ xs) h zero zero z d e = refl
  are_apart (x ∷ xs) h zero (suc j) z d e = let is : x ≡ z = cc in absurd (not_later x xs h.0 j z is e)
  are_apart (x ∷ xs) h (suc i) zero z d e = let is : x ≡ z = cc in absurd (not_later x xs h.0 i z is d)
  are_apart (x ∷ xs) h (suc i) (suc j) z d e = ap suc (are_apart xs h.1 i j z d e)

  pub found_at : (xs : List T) (x : T) (i : ℕ) → position (eq x) xs ≡ Some i → slice_get xs i ≡ Some x
  found_at xs x i e = let h = position-Some (eq x) xs i x e in slice_get-get_or xs i x h.0 ∙ ap Some (sym (same x _ h.1))

  pub not_there : (xs : List T) (x : T) → list_any (eq x) xs ≡ false → Contains xs x → ⊥
  not_there [] x e c = contains_none x c
  not_there (y ∷ xs) x e c =
      let parts = or_parts (eq x y) (list_any (eq x) xs) e in
      elim (contains_cases y x xs c) [ inl is ↦ true≢false (sym (q.refl x) ∙ ap (eq x) (sym is) ∙ parts.0) | inr more ↦ not_there xs x parts.1 more ]

  inserted : (old new : List T) (x : T) (b : Bool) → new ≡ (if b then old else old ++ x ∷ []) → KeepsNumbers old new
  inserted old new x true e i z at = ap (λ l. slice_get l i) e ∙ at
  inserted old new x false e i z at = ap (λ l. slice_get l i) e ∙ push_keeps old x i z at

  pub insert_keeps : (old new : List T) (x : T) → new ≡ insert_key eq old x → KeepsNumbers old new
  insert_keeps old new x e = inserted old new x (list_any (eq x) old) e

  pub insert_new : (old new : List T) (x : T) → new ≡ insert_key eq old x → (Contains old x → ⊥) → new ≡ old ++ x ∷ []
  insert_new old new x e missing = e ∙ ap (λ b. if b then old else old ++ x ∷ []) (false_from_ne_true (list_any (eq x) old) (λ there. missing (Contains-list_any eq same old x there)))

  pub only_at : (xs : List T) → IsDistinct eq xs → (x : T) (i j : ℕ) → position (eq x) xs ≡ Some i → slice_get xs j ≡ Some x → j ≡ i
  only_at xs apart x i j e at = are_apart xs apart j i x at (found_at xs x i e)

  pub stored_at : (xs : List T) (x k : T) (i : ℕ) → slice_get xs i ≡ Some k → eq x k ≡ true → slice_get xs i ≡ Some x
  stored_at xs x k i at e = at ∙ ap Some (sym (same x k e))

  -- ---- what a look-up answers

  pub found_if : (xs : List T) (x : T) (r : Option ℕ) → r ≡ position (eq x) xs → IfSome r (λ i. slice_get xs i ≡ Some x)
  found_if xs x None e = tt
  found_if xs x (Some i) e = found_at xs x i (sym e)

  pub only_if : (xs : List T) → IsDistinct eq xs → (x : T) (r : Option ℕ) → r ≡ position (eq x) xs → IfSome r (λ i. (j : ℕ) → slice_get xs j ≡ Some x → j ≡ i)
  only_if xs apart x None e = tt
  only_if xs apart x (Some i) e = λ j at. only_at xs apart x i j (sym e) at

  pub missing_if : (xs : List T) (x : T) (r : Option ℕ) → is_some r ≡ list_any (eq x) xs → IfNone r (Contains xs x → ⊥)
  missing_if xs x None e = not_there xs x (sym e)
  missing_if xs x (Some i) e = tt
