-- What the scanner finds at the front of the bytes.
use Rattle.std.specs.Prelude.{ℕ, ◌≡◌, ◌≢◌, ◌+◌, ◌^◌, ◌≤◌, ◌<◌, List, ◌++◌, length, take, drop, IsFalse}
use Rattle.type_kinds.specs.declared.place.Place.{Place}
use Rattle.core_scan.specs.declared.token.Token.{Token}
use Rattle.core_scan.specs.declared.token.TokenKind.{TokenKind}
use Rattle.core_scan.specs.Bytes.{is_lower, is_blank, past}
use Rattle.core_scan.specs.Lexed.{Passes}
use Rattle.core_scan.specs.Spells.{Longest, IsToken, is_variable_start}

-- n bytes from a place on have places whose numbers fit
abbrev pub HasRoom : Place → ℕ → Type 0
HasRoom place n = (place.byte + n < 2 ^ 64) × (place.line + n < 2 ^ 32)

-- The first `len` bytes are the longest spelling there, and spell a token.
pub record Begins (bytes : List ℕ) (kind : TokenKind) (len : ℕ) : Type 0 where
  pub some : 0 < len
  pub within : len ≤ length bytes
  pub longest : Longest bytes kind (take len bytes) (drop len bytes)
  pub token : IsToken kind

-- a byte that begins no word, variable, character, atom, string, comment or blank
pub record IsOther (b : ℕ) : Type 0 where
  pub no_word : IsFalse (is_lower b)
  pub no_variable : IsFalse (is_variable_start b)
  pub no_character : b ≢ 36
  pub no_atom : b ≢ 39
  pub no_text : b ≢ 34
  pub no_blank : IsFalse (is_blank b)
  pub no_comment : b ≢ 37

-- From a place on, the first `len` bytes are a blank, a comment or a token, which follows the tokens so far.
pub record GoesOn (place : Place) (bytes : List ℕ) (old new : List Token) (len : ℕ) : Type 0 where
  pub some : 0 < len
  pub within : len ≤ length bytes
  pub more : List Token
  pub adds : new ≡ old ++ more
  pub few : length more ≤ 1
  pub passes : Passes (past place (take len bytes)) (drop len bytes) place bytes more
