-- What a run answers is one: at most one status and one output fit the words and what is held, and they are the same whatever the number
-- of workers.
use Rattle.std.specs.Prelude.{◌≡◌, ℕ, true, Contains, List, Option, Some, None}
use Rattle.type_kinds.specs.declared.atom.Atom.{Atom}
use Rattle.call_graph.specs.Outside.{Called}
use Rattle.cons_tree.specs.declared.parts.Callee.{Callee}
use Rattle.da_shelf.specs.Told.{Files}
use Rattle.table_keep.specs.Calls.{called_modules}
use Rattle.table_keep.specs.Groups.{has}
use Rattle.table_keep.specs.Model.{Source, Entry, source_of, entry_of, entries_so}
use Rattle.analysis_answers.specs.ReadFiles.{ReadsAll}
use Rattle.dialyze_command.specs.declared.status.Status.{Status}
use Rattle.dialyze_command.specs.declared.words.Command.{Command}
use Rattle.dialyze_command.specs.Codes.{code_of}
use Rattle.dialyze_command.specs.Laws.{BeganWith}
use Rattle.dialyze_command.specs.Outcome.{Names, NamesTable, Begins, Outcome}
use Rattle.dialyze_command.specs.Words.{IsCheck}

-- ---- the table to begin with

-- A text that is passed and has the digest of its entry calls the module of each function that the entry uses.
abbrev pub CallsWhatIsUsed : (T : List Entry) (M : List Source) → Type 0
CallsWhatIsUsed T M = (h : Atom) (s : Source) (e : Entry) (u : Called × Callee) → source_of M h ≡ Some s → entry_of T h ≡ Some e → s.digest ≡ e.digest → Contains e.used u
    → has (called_modules s.tree) u.0.0 ≡ true

-- So it is with the table that a check of these words begins with. Only a table that this program didn't make can be another.
abbrev pub BeginsFitly : (words : List (List ℕ)) (held : Files) → Type 0
BeginsFitly words held = (command : Command) (files : List (List ℕ)) (begins : Begins words (Some held) command files) (M : List Source) → ReadsAll (Some held) files M
    → CallsWhatIsUsed (entries_so begins.table) M

-- The words name no table to begin with.
abbrev pub NamesNoTable : List (List ℕ) → Type 0
NamesNoTable words = (word : ℕ) (name : List ℕ) → NamesTable words word name → ⊥

-- Whatever is read, the table that a check of these words begins with is that of some sources.
abbrev pub BeginsWithSources : (words : List (List ℕ)) (held : Files) → Type 0
BeginsWithSources words held = (command : Command) (files : List (List ℕ)) (begins : Begins words (Some held) command files) (M : List Source) → ReadsAll (Some held) files M
    → (Src : List Source) × BeganWith Src M (entries_so begins.table)

-- Without a table it is so, and with one of some sources.
abbrev pub AloneLaw : Type 0
AloneLaw = (words : List (List ℕ)) (held : Files) → NamesNoTable words → BeginsFitly words held

abbrev pub OfSourcesLaw : Type 0
OfSourcesLaw = (words : List (List ℕ)) (held : Files) → BeginsWithSources words held → BeginsFitly words held

-- ---- one outcome

-- Two outcomes of the same words, where the same is held, are one.
abbrev pub OneOutcomeLaw : Type 0
OneOutcomeLaw = (words : List (List ℕ)) (held : Files) (status other : Status) (output that : List ℕ) (after then : Option Files) → BeginsFitly words held
    → Outcome words (Some held) status output after → Outcome words (Some held) other that then → (status ≡ other) × (output ≡ that) × (after ≡ then)

-- ---- whatever the number of workers

-- An option is given in both with one name behind it, or in neither.
pub data SameName (words others : List (List ℕ)) (option other : Option ℕ) : Type 0 where
  neither : option ≡ None → other ≡ None → SameName words others option other
  one_name : (word that : ℕ) (name : List ℕ) → Names words option word name → Names others other that name → SameName words others option other

-- Both ask for a check of the same files, with the same table to begin with and the same name for the new one. Their numbers of workers, and
-- the order of their options, may differ.
pub record AskTheSame (words others : List (List ℕ)) : Type 0 where
  pub command : Command
  pub other : Command
  pub files : List (List ℕ)
  pub check : IsCheck words command files
  pub also : IsCheck others other files
  pub plt : SameName words others command.plt other.plt
  pub out : SameName words others command.out other.out

-- Such words have the same output and the same code, and the same is held afterwards. The statuses differ where they name positions among
-- the words.
abbrev pub SameOutcomeLaw : Type 0
SameOutcomeLaw = (words others : List (List ℕ)) (held : Files) (status other : Status) (output that : List ℕ) (after then : Option Files) → AskTheSame words others → BeginsFitly words held
    → Outcome words (Some held) status output after → Outcome others (Some held) other that then → (code_of status ≡ code_of other) × (output ≡ that) × (after ≡ then)
