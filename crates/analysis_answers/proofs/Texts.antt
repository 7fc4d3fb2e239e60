-- Words as the code has them, and as texts.
use Rattle.std.proofs.Common.{◌≡◌, ℕ, zero, suc, ◌+◌, ◌<◌, List, [], ◌∷◌, length, drop, get_or, Some, refl, ap, ◌∙◌, arith}
use Rattle.std.specs.Prelude.{slice_get}
use Rattle.std.specs.Borrow.{Bor}
use Rattle.std.proofs.lemmas.List.{length-map, length-drop}
use Rattle.analysis_sources.specs.Words.{texts}

pub texts_long : (words : List (Bor (List ℕ))) → length (texts words) ≡ length words
texts_long words = length-map words (λ (w : Bor (List ℕ)). w.now)

pub texts_at : (words : List (Bor (List ℕ))) (i : ℕ) (d : Bor (List ℕ)) → i < length words → slice_get (texts words) i ≡ Some (get_or words i d).now
texts_at [] i d h = absurd (omega arith)
texts_at (w ∷ ws) zero d h = refl
texts_at (w ∷ ws) (suc i) d h = texts_at ws i d (omega arith)

pub word_of : (ws : List (List ℕ)) (start at : ℕ) → slice_get ws (start + at) ≡ slice_get (drop start ws) at
word_of ws zero at = ap (slice_get ws) (let e : 0 + at ≡ at = omega arith in e)
word_of [] (suc start) at = refl
word_of (w ∷ ws) (suc start) at =
    let next : suc start + at ≡ suc (start + at) = omega arith in
    ap (slice_get (w ∷ ws)) next ∙ word_of ws start at

pub within_words : (words : List (Bor (List ℕ))) (start at : ℕ) → at < length (drop start (texts words)) → start + at < length words
within_words words start at h = omega (arith, h, length-drop start (texts words), texts_long words)
