-- Which words are a command, and what it asks for.
use Rattle.std.specs.Prelude.{◌≡◌, ◌≢◌, ◌⊎◌, ℕ, ◌+◌, ◌≤◌, List, [], ◌∷◌, ◌++◌, codes, Option, Some, None}
use Rattle.std.specs.Fmt.{decimal}
pub use Rattle.analysis_answers.specs.Words.{most_files, most_workers, IsFile, AreFiles}
use Rattle.dialyze_command.specs.declared.words.Command.{Command}
use Rattle.dialyze_command.specs.declared.words.OptionName.{OptionName}
use Rattle.dialyze_command.specs.declared.words.OptionName.TheVariants.{Plt, Out, Workers}

-- how many generated modules may be asked for
abbrev pub most_modules : ℕ
most_modules = 1000

-- ---- options

abbrev pub option_word : OptionName → List ℕ
option_word Plt = codes "--plt"
option_word Out = codes "--out"
option_word Workers = codes "--workers"

-- `check` asks for this without an option: its files begin with the word behind it.
abbrev pub plain : Command
plain = record { plt = None; out = None; workers = None; start = 1 }

-- The option, which stands where the files would begin without it, wasn't given before. Behind it stands the name of a file, or a number
-- from 1 to 64 as it is printed; and with both a check asks for `now`, where it asks for `before` without them.
abbrev pub Adds : OptionName → (value : List ℕ) → (before now : Command) → Type 0
Adds Plt value before now =
    (before.plt ≡ None) × IsFile value × (now ≡ record before { plt = Some (before.start + 1); start = before.start + 2 })
Adds Out value before now =
    (before.out ≡ None) × IsFile value × (now ≡ record before { out = Some (before.start + 1); start = before.start + 2 })
Adds Workers value before now =
    (before.workers ≡ None) × ((n : ℕ) × (value ≡ decimal n) × (1 ≤ n) × (n ≤ most_workers) × (now ≡ record before { workers = Some n; start = before.start + 2 }))

-- The words are options, in any order and each at most once, and with them a check asks for `now`, where it asks for `before`
-- without them.
pub data AreOptions : (words : List (List ℕ)) → (before now : Command) → Type 0 where
  no_more : (words : List (List ℕ)) (before now : Command) → words ≡ [] → now ≡ before → AreOptions words before now
  one_more : (words : List (List ℕ)) (before now : Command) (option : OptionName) (value : List ℕ) (more : List (List ℕ)) (next : Command)
      → words ≡ option_word option ∷ value ∷ more → Adds option value before next → AreOptions more next now → AreOptions words before now

-- ---- commands

-- The words ask for a check: of these files, of one at least, and by its options for this.
pub record IsCheck (words : List (List ℕ)) (command : Command) (files : List (List ℕ)) : Type 0 where
  pub options : List (List ℕ)
  pub spelled : words ≡ codes "check" ∷ options ++ files
  pub asked : AreOptions options plain command
  pub some : files ≢ []
  pub named : AreFiles files

abbrev pub AsksForCheck : List (List ℕ) → Type 0
AsksForCheck words = (command : Command) × (files : List (List ℕ)) × IsCheck words command files

-- The words ask for no check.
abbrev pub IsNoCheck : List (List ℕ) → Type 0
IsNoCheck words = AsksForCheck words → ⊥

-- The words ask for so many generated modules, by a number from 1 to 1,000 as it is printed.
pub record IsMake (words : List (List ℕ)) (count : ℕ) : Type 0 where
  pub spelled : words ≡ codes "make" ∷ decimal count ∷ []
  pub least : 1 ≤ count
  pub most : count ≤ most_modules

-- The words ask for no generated modules.
abbrev pub IsNoMake : List (List ℕ) → Type 0
IsNoMake words = (count : ℕ) → IsMake words count → ⊥

-- The words are a command: they ask for a check, or for generated modules.
abbrev pub IsCommand : List (List ℕ) → Type 0
IsCommand words = AsksForCheck words ⊎ ((count : ℕ) × IsMake words count)

-- The words are no command.
abbrev pub IsNoCommand : List (List ℕ) → Type 0
IsNoCommand words = IsCommand words → ⊥

-- how many workers a check asks for: one, where it doesn't say
abbrev pub workers_asked : Option ℕ → ℕ
workers_asked None = 1
workers_asked (Some n) = n
