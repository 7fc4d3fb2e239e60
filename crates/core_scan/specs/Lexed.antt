-- The tokens of a text, and its first fault.
use Rattle.std.specs.Prelude.{ℕ, ◌≡◌, ◌≢◌, ◌≤◌, ◌⊎◌, List, [], ◌∷◌, ◌++◌, Bool, IsTrue, IsFalse, unsigned_abs, ℤ}
use Rattle.type_kinds.specs.declared.digits.TheConstants.{MAGNITUDE_LIMIT}
use Rattle.type_kinds.specs.declared.place.Place.{Place}
use Rattle.core_scan.specs.declared.token.TokenKind.{TokenKind}
use Rattle.core_scan.specs.declared.token.TokenKind.TheVariants.{Word, Integer}
use Rattle.core_scan.specs.declared.token.Token.{Token}
use Rattle.core_scan.specs.declared.token.ScanFault.{ScanFault}
use Rattle.core_scan.specs.declared.token.ScanFault.TheVariants.{BadByte, OpenQuote, BadEscape, WideInteger}
use Rattle.core_scan.specs.Bytes.{is_blank, is_no_line_feed, past}
use Rattle.core_scan.specs.Escapes.{AllOf, NoneAhead, NoEscape, Inside}
use Rattle.core_scan.specs.Vocabulary.{words, IsOneOf}
use Rattle.core_scan.specs.Spells.{Spells, Longest, IsToken}

-- From a place and the bytes there, blanks, comments and these tokens lead to the place `end` and the bytes `left`.
pub data Passes (end : Place) (left : List ℕ) : Place → List ℕ → List Token → Type 0 where
  here : {place : Place} {bytes : List ℕ} {tokens : List Token} → place ≡ end → bytes ≡ left → tokens ≡ [] → Passes end left place bytes tokens
  blank : {place : Place} {bytes : List ℕ} {tokens : List Token} (b : ℕ) (rest : List ℕ) → bytes ≡ b ∷ rest → IsTrue (is_blank b) → Passes end left (past place (b ∷ [])) rest tokens → Passes end left place bytes tokens
  comment : {place : Place} {bytes : List ℕ} {tokens : List Token} (line rest : List ℕ) → bytes ≡ 37 ∷ line ++ rest → AllOf is_no_line_feed line → NoneAhead is_no_line_feed rest
      → Passes end left (past place (37 ∷ line)) rest tokens → Passes end left place bytes tokens
  token : {place : Place} {bytes : List ℕ} {tokens : List Token} (kind : TokenKind) (piece rest : List ℕ) (others : List Token) → Longest bytes kind piece rest → IsToken kind
      → tokens ≡ record { kind = kind; place = place } ∷ others → Passes end left (past place piece) rest others → Passes end left place bytes tokens

-- These are the tokens of the bytes, which begin at a place.
abbrev pub Lexed : Place → List ℕ → List Token → Type 0
Lexed place bytes tokens = (end : Place) × Passes end [] place bytes tokens

-- nothing, or an escape that the end of the text cuts off
abbrev pub IsCutOff : List ℕ → Type 0
IsCutOff left = (left ≡ []) ⊎ (left ≡ 92 ∷ []) ⊎ (left ≡ 92 ∷ 94 ∷ [])

-- `'` or `"`
abbrev pub IsQuote : ℕ → Type 0
IsQuote q = (q ≡ 39) ⊎ (q ≡ 34)

-- no spelling begins these bytes
abbrev pub NoToken : List ℕ → Type 0
NoToken bytes = (kind : TokenKind) (piece rest : List ℕ) → bytes ≡ piece ++ rest → Spells kind piece rest → ⊥

-- The fault at the first of the bytes.
pub data FaultAt (place : Place) (bytes : List ℕ) (fault : ScanFault) : Type 0 where
  -- a lower-case word that isn't reserved
  unknown_word : (w piece rest : List ℕ) → Longest bytes (Word w) piece rest → (IsOneOf words w → ⊥) → fault ≡ BadByte place → FaultAt place bytes fault
  -- an integer of a magnitude of 2^127 or more
  wide : (n : ℤ) (bare : Bool) (piece rest : List ℕ) → Longest bytes (Integer n bare) piece rest → MAGNITUDE_LIMIT ≤ unsigned_abs n → fault ≡ WideInteger place → FaultAt place bytes fault
  -- quotes that aren't closed before the text ends
  open_quote : (q : ℕ) (inside text left : List ℕ) → IsQuote q → bytes ≡ q ∷ inside ++ left → Inside q inside text left → IsCutOff left → fault ≡ OpenQuote place → FaultAt place bytes fault
  -- a backslash between quotes that begins no escape, and isn't cut off
  bad_escape : (q : ℕ) (inside text more : List ℕ) → IsQuote q → bytes ≡ q ∷ inside ++ 92 ∷ more → Inside q inside text (92 ∷ more) → NoEscape more → (IsCutOff (92 ∷ more) → ⊥)
      → fault ≡ BadEscape (past place (q ∷ inside)) → FaultAt place bytes fault
  -- a byte at which nothing begins
  no_token : (b : ℕ) (rest : List ℕ) → bytes ≡ b ∷ rest → IsFalse (is_blank b) → b ≢ 37 → b ≢ 39 → b ≢ 34 → NoToken bytes → fault ≡ BadByte place → FaultAt place bytes fault

-- The first fault of the bytes: only blanks, comments and tokens come before it.
abbrev pub FirstFault : Place → List ℕ → ScanFault → Type 0
FirstFault place bytes fault = (tokens : List Token) × (end : Place) × (left : List ℕ) × Passes end left place bytes tokens × FaultAt end left fault
