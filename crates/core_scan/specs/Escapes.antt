-- What a backslash and the bytes after it stand for, and what is written between quotes (Core Erlang 1.0.3 language
-- specification, "Lexical definitions").
use Rattle.std.specs.Prelude.{ℕ, ◌≡◌, ◌≢◌, ◌+◌, ◌≤◌, ◌⊎◌, List, [], ◌∷◌, ◌++◌, length, cond, Bool, IsTrue, IsFalse, ◌==◌, Option, Some, None, ⊤}
use Rattle.type_kinds.specs.Digits.{number}
use Rattle.core_scan.specs.Bytes.{is_octal}

-- each byte passes the test
abbrev pub AllOf : (ℕ → Bool) → List ℕ → Type 0
AllOf test [] = ⊤
AllOf test (b ∷ bs) = IsTrue (test b) × AllOf test bs

-- no byte of this kind comes first
abbrev pub NoneAhead : (ℕ → Bool) → List ℕ → Type 0
NoneAhead test [] = ⊤
NoneAhead test (b ∷ bs) = IsFalse (test b)

-- the byte that a backslash and one letter or mark stand for
abbrev pub lettered : ℕ → Option ℕ
lettered b =
    cond (b == 98) (Some 8) (cond (b == 100) (Some 127) (cond (b == 101) (Some 27) (cond (b == 102) (Some 12)
    (cond (b == 110) (Some 10) (cond (b == 114) (Some 13) (cond (b == 115) (Some 32) (cond (b == 116) (Some 9)
    (cond (b == 118) (Some 11) (cond (b == 34) (Some 34) (cond (b == 39) (Some 39) (cond (b == 92) (Some 92) None)))))))))))

-- `piece`, after a backslash, stands for the byte `value` where `rest` follows
pub data Escape (piece : List ℕ) (value : ℕ) (rest : List ℕ) : Type 0 where
  -- one to three octal digits, as many as there are
  octal : piece ≢ [] → length piece ≤ 3 → AllOf is_octal piece → (length piece ≡ 3) ⊎ NoneAhead is_octal rest → value ≡ number 8 piece → value ≤ 255 → Escape piece value rest
  -- `^` and a byte from 64 to 95, for the byte 64 below it
  control : (b : ℕ) → piece ≡ 94 ∷ b ∷ [] → 64 ≤ b → b ≤ 95 → value + 64 ≡ b → Escape piece value rest
  -- a letter of the table
  letter : (b : ℕ) → piece ≡ b ∷ [] → lettered b ≡ Some value → Escape piece value rest

-- no escape begins these bytes
abbrev pub NoEscape : List ℕ → Type 0
NoEscape bytes = (piece rest : List ℕ) (value : ℕ) → bytes ≡ piece ++ rest → Escape piece value rest → ⊥

-- between quotes `q`, `piece` spells `text` where `rest` follows: bytes other than `q` and the backslash stand for
-- themselves, and escapes for their bytes
pub data Inside (q : ℕ) : (piece text rest : List ℕ) → Type 0 where
  nothing : {piece text rest : List ℕ} → piece ≡ [] → text ≡ [] → Inside q piece text rest
  plain : {piece text rest : List ℕ} (b : ℕ) (more letters : List ℕ) → b ≢ q → b ≢ 92 → piece ≡ b ∷ more → text ≡ b ∷ letters → Inside q more letters rest → Inside q piece text rest
  escaped : {piece text rest : List ℕ} (escape more letters : List ℕ) (value : ℕ) → Escape escape value (more ++ rest) → piece ≡ 92 ∷ escape ++ more → text ≡ value ∷ letters → Inside q more letters rest
      → Inside q piece text rest

-- `piece` is a text between quotes `q`
abbrev pub Quoted : ℕ → List ℕ → List ℕ → List ℕ → Type 0
Quoted q text piece rest = (inside : List ℕ) × (piece ≡ q ∷ inside ++ q ∷ []) × Inside q inside text (q ∷ rest)
