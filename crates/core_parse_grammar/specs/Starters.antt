-- The tokens that expressions and patterns begin with, annotation brackets aside.
use Rattle.std.specs.Prelude.{pos, List, [], ◌∷◌, Bool, true, false}
use Rattle.core_ast.specs.declared.syntax.Literal.{Literal}
use Rattle.core_ast.specs.declared.syntax.Literal.TheVariants as l
use Rattle.core_scan.specs.declared.token.TokenKind.{TokenKind}
use Rattle.core_scan.specs.declared.token.TokenKind.TheVariants as k
use Rattle.core_scan.specs.declared.token.Token.{Token}
use Rattle.core_scan.specs.declared.sort.Sort.{Sort}
use Rattle.core_scan.specs.declared.sort.Sort.TheVariants as s
use Rattle.core_scan.specs.Sorts.{sort, fits}

-- A literal of one token, other than an atom.
abbrev pub starts_literal : Sort → Bool
starts_literal s.Small = true
starts_literal s.Integer = true
starts_literal s.Float = true
starts_literal s.Char = true
starts_literal s.EmptyText = true
starts_literal _ = false

-- The same, with atoms.
abbrev pub literal_sort : Sort → Bool
literal_sort s.Atom = true
literal_sort q = starts_literal q

abbrev pub starts_expression : Sort → Bool
starts_expression s.Variable = true
starts_expression s.Atom = true
starts_expression s.Text = true
starts_expression s.OpenSquare = true
starts_expression s.OpenCurly = true
starts_expression s.Less = true
starts_expression s.OpenBinary = true
starts_expression s.OpenMap = true
starts_expression s.Fun = true
starts_expression s.Let = true
starts_expression s.Do = true
starts_expression s.Case = true
starts_expression s.Letrec = true
starts_expression s.Apply = true
starts_expression s.Call = true
starts_expression s.Primop = true
starts_expression s.Try = true
starts_expression s.Receive = true
starts_expression s.Catch = true
starts_expression q = starts_literal q

abbrev pub starts_pattern : Sort → Bool
starts_pattern s.Variable = true
starts_pattern s.Atom = true
starts_pattern s.Text = true
starts_pattern s.OpenSquare = true
starts_pattern s.OpenCurly = true
starts_pattern s.OpenBinary = true
starts_pattern s.OpenMap = true
starts_pattern q = starts_literal q

-- A token that stands for the sort comes first.
abbrev pub opens_with : Sort → List Token → Bool
opens_with c [] = false
opens_with c (t ∷ ts) = fits c (sort t)

-- The literal that a token is by itself, and else the empty list.
abbrev pub kind_literal : TokenKind → Literal
kind_literal (k.Integer value bare) = l.Int value
kind_literal (k.Char byte) = l.Int (pos byte)
kind_literal (k.Float spelling) = l.Float spelling
kind_literal (k.Atom name) = l.Atom name
kind_literal _ = l.Nil

abbrev pub literal_of : Token → Literal
literal_of token = kind_literal token.kind
