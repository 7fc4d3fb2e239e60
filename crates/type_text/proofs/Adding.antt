-- Words behind words.
use Rattle.std.proofs.Common.{◌≡◌, ℕ, ◌+◌, ◌<◌, Bool, List, [], ◌∷◌, ◌++◌, length, take, drop, refl, append_assoc, arith}
use Rattle.std.specs.Prelude.{slice_index_or}
use Rattle.std.proofs.lemmas.List.{take_more, take-append-drop, append-nil}
use Rattle.std.proofs.Math.Seq.{take-append_seam}
use Rattle.type_text.specs.Texts.{after}
use Rattle.type_text.specs.Adds.{row_text, Adds}

-- ---- the text of more words

after-append : (s : List ℕ) (ws vs : List (List ℕ)) → after s (ws ++ vs) ≡ after s ws ++ after s vs
after-append s [] vs = refl
after-append s (w ∷ ws) vs = rw (after-append s ws vs) (simp append_assoc)

-- ---- what is added

-- words, and then more
pub both : {s : List ℕ} {ws vs : List (List ℕ)} {a b c : Bool} {o p q : List ℕ} → Adds s ws a b o p → Adds s vs b c p q → Adds s (ws ++ vs) a c o q
both {s = s} {ws = ws} {vs = vs} {a = a} {b = b} {o = o} k l = grind (arith, after-append, append_assoc)

-- a separator, and then a word
pub one_word : {s : List ℕ} {a b : Bool} {o p : List ℕ} → Adds s ([] ∷ []) a b o p → (w q : List ℕ) → q ≡ p ++ w → Adds s (w ∷ []) a b o q
one_word {s = s} {a = a} {o = o} k w q e = grind (arith, append_assoc, append-nil)

-- The words of one more item of a list.
pub one_more :
    {A : Type 0} (words : List A → List (List ℕ)) → ((xs ys : List A) → words (xs ++ ys) ≡ words xs ++ words ys) → (xs : List A) (i : ℕ) (d x : A) → i < length xs → x ≡ slice_index_or xs i d
    → {s : List ℕ} {a b c : Bool} {o p q : List ℕ} → Adds s (words (take i xs)) a b o p → Adds s (words (x ∷ [])) b c p q → Adds s (words (take (i + 1) xs)) a c o q
one_more words more xs i d x h is {s = s} {a = a} {c = c} {o = o} {q = q} k l = grind (arith, take_more, both k l)

-- ---- what was there before

-- what was there before an addition stays as long as the addition does
pub still_front : {s : List ℕ} {ws : List (List ℕ)} {a b : Bool} {o p : List ℕ} → Adds s ws a b o p → (q : List ℕ) → take (length p) q ≡ p → take (length o) q ≡ o
still_front {s = s} {ws = ws} {a = a} {o = o} {p = p} k q h = grind (arith, k.text, append_assoc, take-append-drop (length p) q, take-append_seam o (row_text s a ws ++ drop (length p) q))
