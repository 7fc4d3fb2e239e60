-- Lemmas on lists with an item or a list added last, on the item that `pop` takes, and on states after a write.
use Rattle.std.proofs.Common.{◌≡◌, ℕ, ◌<◌, ◌≤◌, ◌-◌, ◌⊎◌, inl, inr, List, [], ◌∷◌, ◌++◌, length, get_or, set, refl, sym, ◌∙◌, ap, subst, arith}
use Rattle.std.specs.Prelude.{All, Option, None, Some, MatchOption}
use Rattle.std.proofs.lemmas.List.{length-append, length_push, get_or_append_left, get_or_push, get_or-append_right, get_or-set_same, get_or-set_other}
use Rattle.std.proofs.lemmas.Bool.{cases_lt, cases_eq}
use Rattle.components.specs.declared.search.NodeState.{NodeState}
use Rattle.components.specs.steps.Search.{state_of}

pub All-front : {X : Type 0} (P : X → Type 0) (xs : List X) (y : X) → All P (xs ++ y ∷ []) → All P xs
All-front P xs y all k d low =
    subst P (get_or_append_left xs (y ∷ []) d k low) (all k d (omega (arith, length_push xs y)))

pub All-end : {X : Type 0} (P : X → Type 0) (xs : List X) (y : X) → All P (xs ++ y ∷ []) → P y
All-end P xs y all =
    subst P (get_or_push xs y y (length xs) refl) (all (length xs) y (omega (arith, length_push xs y)))

pub push_cases : {X : Type 0} (xs : List X) (y d : X) (k : ℕ) → k < length (xs ++ y ∷ [])
    → ((k < length xs) × (get_or (xs ++ y ∷ []) k d ≡ get_or xs k d)) ⊎ ((k ≡ length xs) × (get_or (xs ++ y ∷ []) k d ≡ y))
push_cases xs y d k low =
    elim (cases_lt k (length xs)) [
      | inl under ↦ inl (under, get_or_append_left xs (y ∷ []) d k under)
      | inr over ↦
          let here : length xs ≡ k = omega (arith, length_push xs y) in
          inr (sym here, get_or_push xs y d k here)
    ]

pub append_cases : {X : Type 0} (xs ys : List X) (d : X) (k : ℕ) → k < length (xs ++ ys)
    → ((k < length xs) × (get_or (xs ++ ys) k d ≡ get_or xs k d)) ⊎ ((length xs ≤ k) × (k - length xs < length ys) × (get_or (xs ++ ys) k d ≡ get_or ys (k - length xs) d))
append_cases xs ys d k low =
    elim (cases_lt k (length xs)) [
      | inl under ↦ inl (under, get_or_append_left xs ys d k under)
      | inr over ↦ inr (over, omega (arith, length-append xs ys), get_or-append_right xs ys (length xs) k d refl over)
    ]

pub state_cases : (states : List NodeState) (w : ℕ) (m : NodeState) (f : ℕ) → w < length states
    → ((f ≡ w) × (state_of (set states w m) f ≡ m)) ⊎ ((f ≡ w → ⊥) × (state_of (set states w m) f ≡ state_of states f))
state_cases states w m f low =
    elim (cases_eq f w) [
      | inl e ↦ inl (e, ap (λ k. state_of (set states w m) k) e ∙ get_or-set_same states w m _ low)
      | inr ne ↦ inr (ne, get_or-set_other states w f m _ ne)
    ]

-- what `pop` takes from a list that isn't empty is its last item
pub popped : {X : Type 0} (r : Option X) (before after : List X) → 0 < length before
    → MatchOption r ((before ≡ []) × (after ≡ [])) (λ last. before ≡ after ++ last ∷ []) → (last : X) × (before ≡ after ++ last ∷ [])
popped None before after some is = absurd (omega (arith, some, ap length is.0))
popped (Some last) before after some is = (last, is)
