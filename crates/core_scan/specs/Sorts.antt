-- What syntax asks of a token.
use Rattle.std.specs.Prelude.{ℕ, ℤ, pos, List, [], ◌∷◌, Bool, true, if◌then◌else◌, ◌==◌, nat_le}
use Rattle.core_scan.specs.declared.sort.TheConstants.{LARGEST_ARITY}
use Rattle.core_scan.specs.declared.sort.Sort.{Sort}
use Rattle.core_scan.specs.declared.sort.Sort.TheVariants as s
use Rattle.core_scan.specs.declared.token.Token.{Token}
use Rattle.core_scan.specs.declared.token.TokenKind.{TokenKind}
use Rattle.core_scan.specs.declared.token.TokenKind.TheVariants as k
use Rattle.core_scan.specs.Vocabulary.{words, symbols, sort_in}

-- an integer that may be an arity, which digits alone spell, and any other
abbrev pub integer_sort : ℤ → Bool → Sort
integer_sort (pos n) true = if nat_le n LARGEST_ARITY then s.Small else s.Integer
integer_sort value bare = s.Integer

-- the empty string, and any other
abbrev pub text_sort : List ℕ → Sort
text_sort [] = s.EmptyText
text_sort (b ∷ bs) = s.Text

-- which word or symbol a token is, or else its kind
abbrev pub kind_sort : TokenKind → Sort
kind_sort (k.Word word) = sort_in words word
kind_sort (k.Variable name) = s.Variable
kind_sort (k.Integer value bare) = integer_sort value bare
kind_sort (k.Float spelling) = s.Float
kind_sort (k.Char byte) = s.Char
kind_sort (k.Atom name) = s.Atom
kind_sort (k.Text bytes) = text_sort bytes
kind_sort (k.Symbol symbol) = sort_in symbols symbol

abbrev pub sort : Token → Sort
sort token = kind_sort token.kind

-- the sorts by number, so that two are compared by their numbers
abbrev pub code : Sort → ℕ
code s.After = 0
code s.Apply = 1
code s.Attributes = 2
code s.Call = 3
code s.Case = 4
code s.Catch = 5
code s.Do = 6
code s.End = 7
code s.Fun = 8
code s.In = 9
code s.Let = 10
code s.Letrec = 11
code s.Module = 12
code s.Of = 13
code s.Primop = 14
code s.Receive = 15
code s.Try = 16
code s.When = 17
code s.OpenRound = 18
code s.CloseRound = 19
code s.OpenCurly = 20
code s.CloseCurly = 21
code s.OpenSquare = 22
code s.CloseSquare = 23
code s.Less = 24
code s.Greater = 25
code s.Bar = 26
code s.Comma = 27
code s.Colon = 28
code s.Slash = 29
code s.Equals = 30
code s.Arrow = 31
code s.Noted = 32
code s.OpenBinary = 33
code s.CloseBinary = 34
code s.OpenSegment = 35
code s.OpenMap = 36
code s.CloseMap = 37
code s.Assoc = 38
code s.Exact = 39
code s.Variable = 40
code s.Small = 41
code s.Integer = 42
code s.Float = 43
code s.Char = 44
code s.Atom = 45
code s.EmptyText = 46
code s.Text = 47
code s.Other = 48

-- A token of the second sort may be where one of the first is expected: a small integer is an integer.
abbrev pub fits : Sort → Sort → Bool
fits s.Integer s.Small = true
fits wanted found = code wanted == code found
