-- What a list of words adds to a text: each word has a separator before it, but the first where no word stands yet.
use Rattle.std.specs.Prelude.{◌≡◌, ℕ, Bool, cond, ◌||◌, List, ◌++◌}
use Rattle.type_text.specs.Texts.{after, separated, has_words}

-- the words behind others, where there are some
abbrev pub row_text : List ℕ → Bool → List (List ℕ) → List ℕ
row_text s b ws = cond b (after s ws) (separated s ws)

-- `had` says whether a word stands before, and `has` whether one stands then
pub record Adds (separator : List ℕ) (words : List (List ℕ)) (had has : Bool) (old new : List ℕ) : Type 0 where
  pub text : new ≡ old ++ row_text separator had words
  pub some : has ≡ (had || has_words words)
