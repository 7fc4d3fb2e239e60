-- Where the options of a check end.
use Rattle.std.specs.Prelude.{◌≡◌, ◌≢◌, ℕ, ◌+◌, ◌≤◌, List, [], ◌++◌, length, take}
use Rattle.dialyze_command.specs.declared.words.Command.{Command}
use Rattle.dialyze_command.specs.declared.words.OptionName.{OptionName}
use Rattle.dialyze_command.specs.Words.{AreFiles, AreOptions, Adds, option_word}

-- Words can be options with files behind them, by which a check asks for `now`.
pub record Splits (words options files : List (List ℕ)) (before now : Command) : Type 0 where
  pub whole : words ≡ options ++ files
  pub asked : AreOptions options before now
  pub some : files ≢ []
  pub named : AreFiles files

-- Words aren't options with files behind them.
abbrev pub HasNoOptions : (words : List (List ℕ)) → (before : Command) → Type 0
HasNoOptions words before = (options files : List (List ℕ)) (now : Command) → Splits words options files before now → ⊥

-- The first words are options, and only they can be.
pub record EndsOptions (words : List (List ℕ)) (before now : Command) : Type 0 where
  pub count : ℕ
  pub within : count ≤ length words
  pub start : now.start ≡ before.start + count
  pub asked : AreOptions (take count words) before now
  pub only : (options files : List (List ℕ)) (then : Command) → Splits words options files before then → options ≡ take count words

-- the word is no option
abbrev pub IsNoOption : List ℕ → Type 0
IsNoOption word = (option : OptionName) → word ≡ option_word option → ⊥

-- the option can't stand here with this value
abbrev pub AddsNothing : OptionName → (value : List ℕ) → (before : Command) → Type 0
AddsNothing option value before = (now : Command) → Adds option value before now → ⊥
