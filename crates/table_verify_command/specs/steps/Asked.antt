-- Words behind the first of a command.
use Rattle.std.specs.Prelude.{ℕ, zero, suc, List, [], ◌∷◌}
use Rattle.analysis_answers.specs.Words.{IsFile, IsCommand as AreSomeFiles}

-- So many names, and then some files.
abbrev pub HasNames : ℕ → List (List ℕ) → Type 0
HasNames zero words = AreSomeFiles words
HasNames (suc n) [] = ⊥
HasNames (suc n) (word ∷ words) = IsFile word × HasNames n words
