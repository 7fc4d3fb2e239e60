-- Which words are the names of files, and a command of a program that takes nothing else.
use Rattle.std.specs.Prelude.{◌≢◌, ℕ, ◌<◌, ◌≤◌, List, [], ◌∷◌, length}

-- how many files the words may name
abbrev pub most_files : ℕ
most_files = 1024

-- how many workers may be asked for
abbrev pub most_workers : ℕ
most_workers = 64

-- A file's name isn't empty and doesn't begin with `-`.
abbrev pub IsFile : List ℕ → Type 0
IsFile [] = ⊥
IsFile (b ∷ bs) = b ≢ 45

abbrev pub AreFiles : List (List ℕ) → Type 0
AreFiles [] = Unit {0}
AreFiles (w ∷ ws) = IsFile w × AreFiles ws

-- The words are the names of files, one at least.
pub record IsCommand (words : List (List ℕ)) : Type 0 where
  pub some : words ≢ []
  pub files : AreFiles words

abbrev pub IsNoCommand : List (List ℕ) → Type 0
IsNoCommand words = IsCommand words → ⊥

-- The words name files, and not too many.
pub record NamesFiles (words : List (List ℕ)) : Type 0 where
  pub command : IsCommand words
  pub few : length words ≤ most_files

-- The words name too many files.
pub record NamesTooMany (words : List (List ℕ)) : Type 0 where
  pub command : IsCommand words
  pub many : most_files < length words
