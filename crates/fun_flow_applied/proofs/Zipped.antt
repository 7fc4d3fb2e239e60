-- Two lists whose items go together, place by place.
use Rattle.std.proofs.Common.{◌≡◌, ℕ, suc, ◌+◌, ◌<◌, List, [], ◌∷◌, ◌++◌, length, map, take, get_or, slice_get, Option, Some, None, refl, sym, ap, ◌∙◌, subst, arith}
use Rattle.std.specs.Prelude.{Contains, IsSomeAnd, MatchOption}
use Rattle.std.specs.List.{AllZip}
use Rattle.std.proofs.lemmas.Slice.Zip.{AllZip-left, AllZip-right}
use Rattle.std.proofs.Math.Seq.{take-suc}
use Rattle.std.proofs.lemmas.List.{map-append}
use Rattle.type_kinds.proofs.Lists.{contains_at, position_of}

some_of : {B : Type 0} (o : Option B) (P : B → Type 0) → IsSomeAnd o P → (y : B) × (o ≡ Some y) × P y
some_of None P h = absurd h
some_of (Some y) P h = (y, refl, h)

module _ {A B : Type 0} (R : A → B → Type 0) where
  pub zip_left : (xs : List A) (ys : List B) → AllZip R xs ys → (k : ℕ) (x : A) → slice_get xs k ≡ Some x → (y : B) × (slice_get ys k ≡ Some y) × R x y
  zip_left xs ys z k x e = some_of (slice_get ys k) (R x) (subst (λ o. MatchOption o (Unit {0}) (λ v. IsSomeAnd (slice_get ys k) (R v))) e (AllZip-left R xs ys z k))

  pub zip_right : (xs : List A) (ys : List B) → AllZip R xs ys → (k : ℕ) (y : B) → slice_get ys k ≡ Some y → (x : A) × (slice_get xs k ≡ Some x) × R x y
  zip_right xs ys z k y e = some_of (slice_get xs k) (λ x. R x y) (subst (λ o. MatchOption o (Unit {0}) (λ v. IsSomeAnd (slice_get xs k) (λ x. R x v))) e (AllZip-right R xs ys z k))

  pub zip_among : (xs : List A) (ys : List B) → AllZip R xs ys → (x : A) → Contains xs x → (y : B) × Contains ys y × R x y
  zip_among xs ys z x has =
      let at = position_of xs x has in
      let k = zip_left xs ys z at.0 x at.2 in
      (k.0, contains_at ys at.0 k.0 k.1, k.2)

  pub zip_from : (xs : List A) (ys : List B) → AllZip R xs ys → (y : B) → Contains ys y → (x : A) × Contains xs x × R x y
  zip_from xs ys z y has =
      let at = position_of ys y has in
      let k = zip_right xs ys z at.0 y at.2 in
      (k.0, contains_at xs at.0 k.0 k.1, k.2)

  zip_push : (xs : List A) (ys : List B) (x : A) (y : B) → AllZip R xs ys → R x y → AllZip R (xs ++ x ∷ []) (ys ++ y ∷ [])
  zip_push [] [] x y z r = (r, tt)
  zip_push [] (w ∷ ys) x y z r = absurd z
  zip_push (v ∷ xs) [] x y z r = absurd z
  zip_push (v ∷ xs) (w ∷ ys) x y z r = (z.0, zip_push xs ys x y z.1 r)

  -- one more pair is passed
  pub zip_round : (xs : List A) (i : ℕ) (x : A) (now new : List B) (y : B) → i < length xs → x ≡ get_or xs i x → AllZip R (take i xs) now → new ≡ now ++ y ∷ [] → R x y → AllZip R (take (i + 1) xs) new
  zip_round xs i x now new y within is before pushed r =
      subst (λ n. AllZip R (take n xs) new) {x = suc i} {y = i + 1} (omega arith)
      (subst (λ ws. AllZip R ws new) (ap (λ v. take i xs ++ v ∷ []) is ∙ sym (take-suc xs i x within)) (subst (AllZip R (take i xs ++ x ∷ [])) (sym pushed) (zip_push (take i xs) now x y before r)))

-- the same where the first list is made of another one
pub mapped_round : {S A B : Type 0} (R : A → B → Type 0) (f : S → A) (xs : List S) (i : ℕ) (x : S) (now new : List B) (y : B) → i < length xs → x ≡ get_or xs i x
    → AllZip R (map f (take i xs)) now → new ≡ now ++ y ∷ [] → {a : A} → a ≡ f x → R a y
    → AllZip R (map f (take (i + 1) xs)) new
mapped_round R f xs i x now new y within is before pushed {a} same r =
    subst (λ n. AllZip R (map f (take n xs)) new) {x = suc i} {y = i + 1} (omega arith)
    (subst (λ ws. AllZip R ws new) (sym (map-append f (take i xs) (x ∷ [])) ∙ ap (λ v. map f (take i xs ++ v ∷ [])) is ∙ ap (map f) (sym (take-suc xs i x within)))
    (subst (AllZip R (map f (take i xs) ++ f x ∷ [])) (sym pushed) (zip_push R (map f (take i xs)) now (f x) y before (subst (λ v. R v y) same r))))
