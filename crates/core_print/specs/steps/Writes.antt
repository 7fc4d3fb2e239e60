-- What a part of the printer adds to the text that stands there.
use Rattle.std.specs.Prelude.{ℕ, ◌≡◌, List, [], ◌∷◌, ◌++◌}
use Rattle.core_print.specs.Words.{Word, spaced, line}
use Rattle.core_print.specs.Canonical.{Words}

-- Whatever words follow, the new text and they are the old text, the part's words and they.
pub record Writes (words : Words) (old new : List ℕ) : Type 0 where
  pub text : (rest : List Word) → new ++ spaced rest ≡ old ++ spaced (words rest)

-- Whatever words follow, the text, they and LF are the line of the part's words and they.
pub record Begins (words : Words) (text : List ℕ) : Type 0 where
  pub whole : (rest : List Word) → text ++ spaced rest ++ 10 ∷ [] ≡ line (words rest)
