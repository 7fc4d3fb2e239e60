-- Scripts: lines that edit what is held, and lines that ask for reports.
use Rattle.std.specs.Prelude.{◌≡◌, ◌≢◌, ℕ, suc, List, [], ◌++◌, All, Contains, IsUtf8, codes, length}
use Rattle.std.specs.List.{flat_map}
use Rattle.analysis_answers.specs.Words.{IsFile}
use Rattle.analysis_sources.specs.Refusals.{line}
use Rattle.dia_session_command.specs.declared.script.ScriptFault.{ScriptFault}
use Rattle.dia_session_command.specs.declared.script.ScriptFault.TheVariants.{BadLine, Memory}
use Rattle.dia_session_command.specs.declared.script.ScriptLine.{ScriptLine}
use Rattle.dia_session_command.specs.declared.script.ScriptLine.TheVariants.{Replace, Drop, Ask}

-- What a line asks for.
pub data Request : Type 0 where
  -- the file is read, and held from then on
  to_replace : List ℕ → Request
  -- the file is held no more
  to_drop : List ℕ → Request
  -- the reports on all that is held
  to_ask : Request

-- what the line of a request says
abbrev pub request_text : Request → List ℕ
request_text (to_replace file) = codes "replace " ++ file
request_text (to_drop file) = codes "drop " ++ file
request_text to_ask = codes "ask"

-- the line, with its end
abbrev pub request_line : Request → List ℕ
request_line r = line (request_text r)

-- A line can name the file: it is a file's name, in UTF-8, and no line ends in it.
pub record CanBeNamed (file : List ℕ) : Type 0 where
  pub named : IsFile file
  pub text : IsUtf8 file
  pub one_line : Contains file 10 → ⊥

abbrev pub IsGood : Request → Type 0
IsGood (to_replace file) = CanBeNamed file
IsGood (to_drop file) = CanBeNamed file
IsGood to_ask = Unit {0}

-- the lines of requests, each behind the one before it
abbrev pub lines_of : List Request → List ℕ
lines_of requests = flat_map request_line requests

-- The bytes are a script: the lines of these requests.
pub record IsScript (bytes : List ℕ) (requests : List Request) : Type 0 where
  pub good : All IsGood requests
  pub spelled : bytes ≡ lines_of requests

-- The line of this number, from 1, is the first that is bad: the lines before it are those of requests, and behind them something
-- stands that doesn't begin with the line of one.
pub record IsBadLine (bytes : List ℕ) (number : ℕ) : Type 0 where
  pub before : List Request
  pub good : All IsGood before
  pub rest : List ℕ
  pub spelled : bytes ≡ lines_of before ++ rest
  pub some : rest ≢ []
  pub bad : (r : Request) (more : List ℕ) → IsGood r → rest ≡ request_line r ++ more → ⊥
  pub counted : number ≡ suc (length before)

-- what a line that was read asks for
abbrev pub request_so : ScriptLine → Request
request_so (Replace file) = to_replace file.now
request_so (Drop file) = to_drop file.now
request_so Ask = to_ask

-- why bytes are no script
abbrev pub IsScriptFault : List ℕ → ScriptFault → Type 0
IsScriptFault bytes (BadLine number) = IsBadLine bytes number
IsScriptFault bytes Memory = Unit {0}
