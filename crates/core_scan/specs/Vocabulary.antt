-- The reserved words and the symbols of Core Erlang (Core Erlang 1.0.3 language specification, "Lexical
-- definitions"), as their bytes, each with its sort.
use Rattle.std.specs.Prelude.{ℕ, ◌≡◌, ◌⊎◌, List, [], ◌∷◌, codes, bytes_eq, if◌then◌else◌}
use Rattle.core_scan.specs.declared.sort.Sort.{Sort}
use Rattle.core_scan.specs.declared.sort.Sort.TheVariants as s

-- `x` is a text of this table
abbrev pub IsOneOf : List (List ℕ × Sort) → List ℕ → Type 0
IsOneOf [] x = ⊥
IsOneOf (entry ∷ table) x = (x ≡ entry.0) ⊎ IsOneOf table x

-- the sort that a table has for a text
abbrev pub sort_in : List (List ℕ × Sort) → List ℕ → Sort
sort_in [] x = s.Other
sort_in (entry ∷ table) x = if bytes_eq x entry.0 then entry.1 else sort_in table x

-- what a lower-case word must be
abbrev pub words : List (List ℕ × Sort)
words =
    (codes "after", s.After) ∷
    (codes "apply", s.Apply) ∷
    (codes "attributes", s.Attributes) ∷
    (codes "call", s.Call) ∷
    (codes "case", s.Case) ∷
    (codes "catch", s.Catch) ∷
    (codes "do", s.Do) ∷
    (codes "end", s.End) ∷
    (codes "fun", s.Fun) ∷
    (codes "in", s.In) ∷
    (codes "let", s.Let) ∷
    (codes "letrec", s.Letrec) ∷
    (codes "module", s.Module) ∷
    (codes "of", s.Of) ∷
    (codes "primop", s.Primop) ∷
    (codes "receive", s.Receive) ∷
    (codes "try", s.Try) ∷
    (codes "when", s.When) ∷
    []

-- brackets, marks and arrows
abbrev pub symbols : List (List ℕ × Sort)
symbols =
    (codes "(", s.OpenRound) ∷
    (codes ")", s.CloseRound) ∷
    (codes "{", s.OpenCurly) ∷
    (codes "}", s.CloseCurly) ∷
    (codes "[", s.OpenSquare) ∷
    (codes "]", s.CloseSquare) ∷
    (codes "<", s.Less) ∷
    (codes ">", s.Greater) ∷
    (codes "|", s.Bar) ∷
    (codes ",", s.Comma) ∷
    (codes ":", s.Colon) ∷
    (codes "/", s.Slash) ∷
    (codes "=", s.Equals) ∷
    (codes "->", s.Arrow) ∷
    (codes "-|", s.Noted) ∷
    (codes "#{", s.OpenBinary) ∷
    (codes "}#", s.CloseBinary) ∷
    (codes "#<", s.OpenSegment) ∷
    (codes "~{", s.OpenMap) ∷
    (codes "}~", s.CloseMap) ∷
    (codes "=>", s.Assoc) ∷
    (codes ":=", s.Exact) ∷
    []
