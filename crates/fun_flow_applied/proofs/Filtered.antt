-- What is kept of a list, item by item.
use Rattle.std.proofs.Common.{◌≡◌, ℕ, ◌+◌, ◌<◌, ◌⊎◌, List, [], ◌∷◌, ◌++◌, length, take, get_or, Option, Some, None, suc, inl, inr, refl, sym, ap, ◌∙◌, subst, arith}
use Rattle.std.specs.Prelude.{Contains}
use Rattle.std.specs.List.{cons_option, filter_map}
use Rattle.std.proofs.Math.Seq.{take-suc}
use Rattle.std.proofs.lemmas.List.Elements.{filter_map-append}
use Rattle.std.proofs.lemmas.Option.{same_Some}
use Rattle.type_kinds.proofs.Lists.{contains_none, contains_first, contains_later, contains_cases}

module _ {X Y : Type 0} (h : X → Option Y) where
  -- one more item is passed
  pub kept_round : (xs : List X) (i : ℕ) (x : X) (now new : List Y) → i < length xs → x ≡ get_or xs i x → now ≡ filter_map h (take i xs) → new ≡ now ++ cons_option (h x) [] → new ≡ filter_map h (take (i + 1) xs)
  kept_round xs i x now new within is before added =
      added ∙ ap (λ ys. ys ++ cons_option (h x) []) before ∙ sym (filter_map-append h (take i xs) (x ∷ []))
      ∙ ap (λ y. filter_map h (take i xs ++ y ∷ [])) is ∙ ap (filter_map h) (sym (take-suc xs i x within))
      ∙ ap (λ n. filter_map h (take n xs)) {x = suc i} {y = i + 1} (omega arith)

  kept_here : (x : X) (xs : List X) (y : Y) (o : Option Y) → h x ≡ o → Contains (cons_option o (filter_map h xs)) y → (Contains (filter_map h xs) y → (z : X) × Contains xs z × (h z ≡ Some y))
      → (z : X) × Contains (x ∷ xs) z × (h z ≡ Some y)
  kept_here x xs y None e c more = let k = more c in (k.0, contains_later x k.0 xs k.1, k.2)
  kept_here x xs y (Some z) e c more = elim (contains_cases z y (filter_map h xs) c) [
    | inl same ↦ (x, contains_first x xs, e ∙ ap Some same)
    | inr there ↦ let k = more there in (k.0, contains_later x k.0 xs k.1, k.2)
  ]

  -- what is kept is of an item
  pub kept_of : (xs : List X) (y : Y) → Contains (filter_map h xs) y → (x : X) × Contains xs x × (h x ≡ Some y)
  kept_of [] y has = absurd (contains_none y has)
  kept_of (x ∷ xs) y has = kept_here x xs y (h x) refl has (kept_of xs y)

  keeps_here : (z : X) (xs : List X) (x : X) (y : Y) (o : Option Y) → h z ≡ o → h x ≡ Some y → (z ≡ x) ⊎ Contains xs x → (Contains xs x → Contains (filter_map h xs) y) → Contains (cons_option o (filter_map h xs)) y
  keeps_here z xs x y None k e (inl same) more = absurd (let f : None ≡ Some y = sym k ∙ ap h same ∙ e in cc)
  keeps_here z xs x y None k e (inr there) more = more there
  keeps_here z xs x y (Some w) k e (inl same) more = subst (λ v. Contains (w ∷ filter_map h xs) v) (same_Some _ _ (sym k ∙ ap h same ∙ e)) (contains_first w (filter_map h xs))
  keeps_here z xs x y (Some w) k e (inr there) more = contains_later w y (filter_map h xs) (more there)

  -- and of each item it is kept
  pub is_kept : (xs : List X) (x : X) (y : Y) → Contains xs x → h x ≡ Some y → Contains (filter_map h xs) y
  is_kept [] x y has e = absurd (contains_none x has)
  is_kept (z ∷ xs) x y has e = keeps_here z xs x y (h z) refl e (contains_cases z x xs has) (λ there. is_kept xs x y there e)
