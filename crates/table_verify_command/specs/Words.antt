-- Which words are a command, and what it asks for.
use Rattle.std.specs.Prelude.{◌≡◌, ℕ, ◌<◌, ◌≤◌, List, ◌∷◌, codes, drop, length}
use Rattle.table_verify_command.specs.declared.words.Task.{Task}
use Rattle.table_verify_command.specs.declared.words.Task.TheVariants.{Make, Check}
use Rattle.analysis_answers.specs.Words.{IsFile, IsCommand as AreSomeFiles, most_files}

-- The words ask for the certificate of these files' modules, to be put onto the shelf under this name.
pub record IsMake (words : List (List ℕ)) (cert : List ℕ) (files : List (List ℕ)) : Type 0 where
  pub spelled : words ≡ codes "make" ∷ cert ∷ files
  pub cert_named : IsFile cert
  pub files_named : AreSomeFiles files

-- The words ask whether the table that is held under the one name is right for these files' modules, by the certificate that is held
-- under the other.
pub record IsCheck (words : List (List ℕ)) (table cert : List ℕ) (files : List (List ℕ)) : Type 0 where
  pub spelled : words ≡ codes "check" ∷ table ∷ cert ∷ files
  pub table_named : IsFile table
  pub cert_named : IsFile cert
  pub files_named : AreSomeFiles files

-- the position of the first file among the words
abbrev pub first_file : Task → ℕ
first_file Make = 2
first_file Check = 3

-- The words are a command with these files, of which the first is the word at the position `start`.
pub data IsCommand (words : List (List ℕ)) (start : ℕ) (files : List (List ℕ)) : Type 0 where
  to_make : (cert : List ℕ) → start ≡ 2 → IsMake words cert files → IsCommand words start files
  to_check : (table cert : List ℕ) → start ≡ 3 → IsCheck words table cert files → IsCommand words start files

-- The words are no command.
abbrev pub IsNoCommand : List (List ℕ) → Type 0
IsNoCommand words = (start : ℕ) (files : List (List ℕ)) → IsCommand words start files → ⊥

-- The words ask for this.
abbrev pub AskFor : List (List ℕ) → Task → Type 0
AskFor words Make = (cert : List ℕ) × IsMake words cert (drop 2 words)
AskFor words Check = (table : List ℕ) × (cert : List ℕ) × IsCheck words table cert (drop 3 words)

-- The words are a command with too many files.
pub record NamesTooMany (words : List (List ℕ)) : Type 0 where
  pub start : ℕ
  pub files : List (List ℕ)
  pub command : IsCommand words start files
  pub many : most_files < length files

-- The words ask for a certificate, and there aren't too many files.
pub record Makes (words : List (List ℕ)) (cert : List ℕ) (files : List (List ℕ)) : Type 0 where
  pub make : IsMake words cert files
  pub few : length files ≤ most_files

-- The words ask for a check, and there aren't too many files.
pub record Checks (words : List (List ℕ)) (table cert : List ℕ) (files : List (List ℕ)) : Type 0 where
  pub check : IsCheck words table cert files
  pub few : length files ≤ most_files
