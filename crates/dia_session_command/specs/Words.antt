-- Which words are a command.
use Rattle.std.specs.Prelude.{◌≡◌, ℕ, ◌≤◌, List, [], ◌∷◌, codes}
use Rattle.std.specs.Fmt.{decimal}
use Rattle.analysis_answers.specs.Words.{IsFile, most_workers}
use Rattle.analysis_sources.specs.Refusals.{line}

-- The words ask for so many workers, by a number as it is printed or else for one, and name a script, at this position among them.
pub data IsCommand (words : List (List ℕ)) (workers : ℕ) (script : List ℕ) (word : ℕ) : Type 0 where
  by_itself : words ≡ script ∷ [] → workers ≡ 1 → word ≡ 0 → IsFile script → IsCommand words workers script word
  by_workers : words ≡ codes "--workers" ∷ decimal workers ∷ script ∷ [] → 1 ≤ workers → workers ≤ most_workers → word ≡ 2 → IsFile script
      → IsCommand words workers script word

-- The words name a script, at this position.
abbrev pub NamesScript : (words : List (List ℕ)) (script : List ℕ) (word : ℕ) → Type 0
NamesScript words script word = (workers : ℕ) × IsCommand words workers script word

-- The words are no command.
abbrev pub IsNoCommand : List (List ℕ) → Type 0
IsNoCommand words = (script : List ℕ) (word : ℕ) → NamesScript words script word → ⊥

abbrev pub usage_line : List ℕ
usage_line = line (codes "usage: dia_session [--workers N] SCRIPT")
