-- Refusals: their numbers, their names, and the lines that the output has for them.
use Rattle.std.specs.Prelude.{ℕ, List, [], ◌∷◌, ◌++◌, codes}
use Rattle.std.specs.Fmt.{decimal}
use Rattle.analysis_sources.specs.declared.refusals.RefusalName.{RefusalName}
use Rattle.analysis_sources.specs.declared.refusals.RefusalName.TheVariants as r
use Rattle.analysis_sources.specs.declared.refusals.SourceFault.{SourceFault}
use Rattle.analysis_sources.specs.declared.refusals.Refusal.{Refusal}

abbrev pub refusal_number : RefusalName → ℕ
refusal_number r.BadByte = 1
refusal_number r.OpenQuote = 2
refusal_number r.BadEscape = 3
refusal_number r.WideInteger = 4
refusal_number r.Syntax = 5
refusal_number r.TooDeep = 6
refusal_number r.Unbound = 8
refusal_number r.RepeatedVariable = 9
refusal_number r.UndefinedFunction = 10
refusal_number r.RepeatedFunction = 11
refusal_number r.BadExport = 12
refusal_number r.Degree = 13
refusal_number r.TooLong = 25
refusal_number r.Missing = 26

abbrev pub refusal_text : RefusalName → List ℕ
refusal_text r.BadByte = codes "BadByte"
refusal_text r.OpenQuote = codes "OpenQuote"
refusal_text r.BadEscape = codes "BadEscape"
refusal_text r.WideInteger = codes "WideInteger"
refusal_text r.Syntax = codes "Syntax"
refusal_text r.TooDeep = codes "TooDeep"
refusal_text r.Unbound = codes "Unbound"
refusal_text r.RepeatedVariable = codes "RepeatedVariable"
refusal_text r.UndefinedFunction = codes "UndefinedFunction"
refusal_text r.RepeatedFunction = codes "RepeatedFunction"
refusal_text r.BadExport = codes "BadExport"
refusal_text r.Degree = codes "Degree"
refusal_text r.TooLong = codes "TooLong"
refusal_text r.Missing = codes "Missing"

-- The refusal of the file at this position among the words.
abbrev pub refusal_at : (word : ℕ) → SourceFault → Refusal
refusal_at word fault = record { number = refusal_number fault.name; word = word; line = fault.line; other = 0 }

-- a file that isn't held
abbrev pub missing : SourceFault
missing = record { name = r.Missing; line = 0 }

abbrev pub line : List ℕ → List ℕ
line text = text ++ 10 ∷ []

-- :12, and nothing for a refusal of the whole file
abbrev pub position : SourceFault → List ℕ
position fault = by fault.name
  where
    by : RefusalName → List ℕ
    by r.TooLong = []
    by r.Missing = []
    by _ = codes ":" ++ decimal fault.line

-- FILE:12: refused 5 Syntax
abbrev pub refusal_line : List ℕ → SourceFault → List ℕ
refusal_line file fault = line (file ++ position fault ++ codes ": refused " ++ decimal (refusal_number fault.name) ++ codes " " ++ refusal_text fault.name)
