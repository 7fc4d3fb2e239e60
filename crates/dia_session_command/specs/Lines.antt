-- The lines of a session that aren't reports, and the refusal of a script.
use Rattle.std.specs.Prelude.{ℕ, List, ◌++◌, codes}
use Rattle.std.specs.Fmt.{decimal}
use Rattle.analysis_sources.specs.Refusals.{line}
use Rattle.analysis_answers.specs.declared.run_status.RunStatus.{RunStatus}
use Rattle.analysis_answers.specs.declared.run_status.RunStatus.TheVariants.{Refused}

-- an edit was made
abbrev pub ok_line : List ℕ
ok_line = line (codes "ok")

-- all reports stand before this
abbrev pub asked_line : List ℕ
asked_line = line (codes "asked")

-- FILE: refused 34 NotThere
abbrev pub not_there_line : List ℕ → List ℕ
not_there_line file = line (file ++ codes ": refused 34 NotThere")

-- SCRIPT:3: refused 33 BadLine
abbrev pub bad_line_line : (script : List ℕ) (number : ℕ) → List ℕ
bad_line_line script number = line (script ++ codes ":" ++ decimal number ++ codes ": refused 33 BadLine")

-- the line of this number of the script, which is the word at this position, is bad
abbrev pub bad_line : (word number : ℕ) → RunStatus
bad_line word number = Refused (record { number = 33; word = word; line = number; other = 0 })
