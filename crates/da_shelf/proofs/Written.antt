-- What a sink has written, as it takes one piece after another.
use Rattle.std.proofs.Common.{◌≡◌, ℕ, ◌+◌, ◌-◌, List, ◌++◌, length, take, drop, Option, Some, None, refl, ap, sym, ◌∙◌, append_assoc, arith, length-drop}
use Rattle.std.proofs.lemmas.List.{take-append-drop, drop-take, take_all}
use Rattle.std.proofs.lemmas.Grind.{common_steps}
use Rattle.da_shelf.specs.Told.{appended}

pub appended-appended : (told : Option (List ℕ)) (xs ys : List ℕ) → appended (appended told xs) ys ≡ appended told (xs ++ ys)
appended-appended None xs ys = refl
appended-appended (Some all) xs ys = ap Some (append_assoc all xs ys)

take-take : (bytes : List ℕ) (done n : ℕ) → take done (take (done + n) bytes) ≡ take done bytes
take-take bytes done n = grind (arith, common_steps)

-- A prefix, and a prefix of what is left, are a longer prefix.
take-plus : (bytes : List ℕ) (done n : ℕ) → take done bytes ++ take n (drop done bytes) ≡ take (done + n) bytes
take-plus bytes done n =
    ap (λ front. front ++ take n (drop done bytes)) (sym (take-take bytes done n))
    ∙ ap (λ back. take done (take (done + n) bytes) ++ back) (sym (drop-take done n bytes))
    ∙ take-append-drop done (take (done + n) bytes)

-- what is left, as a range of the bytes
rest-is : (bytes : List ℕ) (done : ℕ) → take (length bytes - done) (drop done bytes) ≡ drop done bytes
rest-is bytes done = take_all (length bytes - done) (drop done bytes) (omega (arith, length-drop done bytes))

-- A sink has taken a prefix, and takes some of what is left.
pub written_further : (before was now : Option (List ℕ)) (bytes : List ℕ) (done n : ℕ) → was ≡ appended before (take done bytes) → now ≡ appended was (take n (take (length bytes - done) (drop done bytes)))
    → now ≡ appended before (take (done + n) bytes)
written_further before was now bytes done n so_far more =
    more
    ∙ ap (λ left. appended was (take n left)) (rest-is bytes done)
    ∙ ap (λ told. appended told (take n (drop done bytes))) so_far
    ∙ appended-appended before (take done bytes) (take n (drop done bytes))
    ∙ ap (appended before) (take-plus bytes done n)
