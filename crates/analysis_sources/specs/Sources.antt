-- What a source is: an accepted module, or a text with a fault.
use Rattle.std.specs.Prelude.{◌≡◌, ℕ, ◌-◌, ◌<◌, ◌≤◌, List, [], length, Option, Some, None, min}
use Rattle.type_kinds.specs.declared.place.Place.{Place}
use Rattle.core_ast.specs.Model as m
use Rattle.core_scan.specs.declared.token.Token.{Token}
use Rattle.core_scan.specs.declared.token.ScanFault.{ScanFault}
use Rattle.core_scan.specs.declared.token.ScanFault.TheVariants as s
use Rattle.core_scan.specs.Bytes.{start, past}
use Rattle.core_scan.specs.Lexed.{Lexed, FirstFault}
use Rattle.core_parse_grammar.specs.declared.fault.ParseFault.{ParseFault}
use Rattle.core_parse_grammar.specs.declared.fault.ParseFault.TheVariants as p
use Rattle.core_parse_grammar.specs.Begins.{IsModule}
use Rattle.core_parse_grammar.specs.Begins as grammar
use Rattle.core_scope.specs.declared.fault.Break.{Break}
use Rattle.core_scope.specs.declared.fault.ScopeRule.{ScopeRule}
use Rattle.core_scope.specs.declared.fault.ScopeRule.TheVariants.{BoundVariables, DistinctVariables, DefinedFunctions, DistinctFunctions, DefinedExports, Degrees}
use Rattle.core_scope.specs.Breaks.{module_breaks}
use Rattle.core_scope.specs.Accepted.{FirstBreak}
use Rattle.sha2.specs.Sha256.{sha256}
use Rattle.table_keep.specs.Model.{Source}
use Rattle.analysis_sources.specs.declared.source.TheConstants.{LONGEST_SOURCE, MOST_BYTES}
use Rattle.analysis_sources.specs.declared.refusals.RefusalName.{RefusalName}
use Rattle.analysis_sources.specs.declared.refusals.RefusalName.TheVariants as r
use Rattle.analysis_sources.specs.declared.refusals.SourceFault.{SourceFault}

-- ---- the refusal that names a fault

abbrev pub at : RefusalName → Place → SourceFault
at name place = record { name = name; line = place.line }

abbrev pub of_the_whole : RefusalName → SourceFault
of_the_whole name = record { name = name; line = 0 }

-- A failed allocation is no fault of the text.
abbrev pub scan_refusal : ScanFault → Option SourceFault
scan_refusal (s.BadByte place) = Some (at r.BadByte place)
scan_refusal (s.OpenQuote place) = Some (at r.OpenQuote place)
scan_refusal (s.BadEscape place) = Some (at r.BadEscape place)
scan_refusal (s.WideInteger place) = Some (at r.WideInteger place)
scan_refusal s.Memory = None

abbrev pub parse_refusal : ParseFault → Option SourceFault
parse_refusal (p.Syntax place) = Some (at r.Syntax place)
parse_refusal (p.TooDeep place) = Some (at r.TooDeep place)
parse_refusal p.Memory = None

abbrev pub rule_name : ScopeRule → RefusalName
rule_name BoundVariables = r.Unbound
rule_name DistinctVariables = r.RepeatedVariable
rule_name DefinedFunctions = r.UndefinedFunction
rule_name DistinctFunctions = r.RepeatedFunction
rule_name DefinedExports = r.BadExport
rule_name Degrees = r.Degree

abbrev pub break_refusal : Break → SourceFault
break_refusal b = at (rule_name b.rule) b.place

-- ---- what the bytes of a source are

-- How many bytes a source may have, where those before it have `before` bytes: 16 MiB, and 64 MiB with those before it.
abbrev pub room : ℕ → ℕ
room before = min LONGEST_SOURCE (MOST_BYTES - before)

-- There are at most `most` bytes, and these are their tokens.
pub record Scanned (most : ℕ) (bytes : List ℕ) (tokens : List Token) : Type 0 where
  pub short : length bytes ≤ most
  pub lexed : Lexed start bytes tokens

-- The bytes are the source of the module: they are at most `most`, their tokens spell it, and it is accepted.
pub record IsSource (most : ℕ) (bytes : List ℕ) (x : m.Module) : Type 0 where
  pub tokens : List Token
  pub scanned : Scanned most bytes tokens
  pub spelled : IsModule tokens x
  pub sound : module_breaks x ≡ []

-- The bytes are the text of the source: the source of its module, with their digest.
pub record IsTextOf (most : ℕ) (bytes : List ℕ) (s : Source) : Type 0 where
  pub source : IsSource most bytes s.tree
  pub digest : s.digest ≡ sha256 bytes

-- There are more bytes.
abbrev pub IsTooLong : (most : ℕ) → List ℕ → SourceFault → Type 0
IsTooLong most bytes fault = (most < length bytes) × (fault ≡ of_the_whole r.TooLong)

-- There are at most `most` bytes, and this names their first fault as a text of tokens.
pub record IsNotScanned (most : ℕ) (bytes : List ℕ) (fault : SourceFault) : Type 0 where
  pub short : length bytes ≤ most
  pub cause : ScanFault
  pub first : FirstFault start bytes cause
  pub named : scan_refusal cause ≡ Some fault

-- The bytes have tokens, and this names the first unexpected token or end, or the first node too deep.
pub record IsNotParsed (most : ℕ) (bytes : List ℕ) (fault : SourceFault) : Type 0 where
  pub tokens : List Token
  pub scanned : Scanned most bytes tokens
  pub cause : ParseFault
  pub refused : grammar.Refused tokens (past start bytes) cause
  pub named : parse_refusal cause ≡ Some fault

-- The bytes spell a module, and this names the first rule of scopes and degrees that it breaks.
pub record IsNotAccepted (most : ℕ) (bytes : List ℕ) (fault : SourceFault) : Type 0 where
  pub tokens : List Token
  pub scanned : Scanned most bytes tokens
  pub spelled : m.Module
  pub is : IsModule tokens spelled
  pub cause : Break
  pub first : FirstBreak spelled cause
  pub named : break_refusal cause ≡ fault

-- The bytes are the source of no module, by this fault.
pub data IsAtFault (most : ℕ) (bytes : List ℕ) (fault : SourceFault) : Type 0 where
  too_long : IsTooLong most bytes fault → IsAtFault most bytes fault
  not_scanned : IsNotScanned most bytes fault → IsAtFault most bytes fault
  not_parsed : IsNotParsed most bytes fault → IsAtFault most bytes fault
  not_accepted : IsNotAccepted most bytes fault → IsAtFault most bytes fault
