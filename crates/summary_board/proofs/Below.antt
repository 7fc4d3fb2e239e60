-- Lists of something for each number below another.
use Rattle.std.proofs.Common.{◌≡◌, ℕ, ◌+◌, zero, suc, [], ◌∷◌, ◌++◌, length, map, replicate, get_or, slice_get, refl, ap, add-one, ◌∙◌, arith, ◌<◌, inl, inr, subst, length-append}
use Rattle.std.specs.declared.option.Option.TheVariants.{Some}
use Rattle.std.proofs.lemmas.Option.{none-some, same_Some}
use Rattle.std.proofs.lemmas.List.{get_or_push, get_or_append_left}
use Rattle.summary_board.proofs.Sets.{same_or_not, below_other}
use Rattle.summary_board.specs.Calls.{each_below}

pub each_below_more : {X : Type 0} (n : ℕ) (f : ℕ → X) → each_below (n + 1) f ≡ each_below n f ++ f n ∷ []
each_below_more n f = rw (add-one n) refl

pub length_each_below : {X : Type 0} (n : ℕ) (f : ℕ → X) → length (each_below n f) ≡ n
length_each_below zero f = refl
length_each_below (suc n) f = omega (arith, length-append (each_below n f) (f n ∷ []), length_each_below n f)

pub get_each_below : {X : Type 0} (n : ℕ) (f : ℕ → X) (c : ℕ) (d : X) → c < n → get_or (each_below n f) c d ≡ f c
get_each_below zero f c d within = absurd (omega arith)
get_each_below (suc n) f c d within =
    let long = length_each_below n f in
    elim (same_or_not c n) [
      | inl same ↦ rw (same) (let P : ℕ → Type 0 = λ k. get_or (each_below n f ++ f n ∷ []) k d ≡ f n in subst P long (get_or_push (each_below n f) (f n) d (length (each_below n f)) refl))
      | inr other ↦ let less : c < n = below_other c n other within in get_or_append_left (each_below n f) ((f n) ∷ []) d c (omega (arith, long, less)) ∙ get_each_below n f c d less
    ]

pub get_replicate : {X : Type 0} (n : ℕ) (x y : X) (c : ℕ) → slice_get (replicate n x) c ≡ Some y → x ≡ y
get_replicate zero x y c is = absurd (none-some y is)
get_replicate (suc n) x y zero is = same_Some x y is
get_replicate (suc n) x y (suc c) is = get_replicate n x y c is

pub map_replicate : {X Y : Type 0} (n : ℕ) (f : X → Y) (x : X) → map f (replicate n x) ≡ replicate n (f x)
map_replicate zero f x = refl
map_replicate (suc n) f x = ap (λ xs. f x ∷ xs) (map_replicate n f x)
