-- The line of a typing: 'm':'f'/1 ({'ok',any()}) -> any()
use Rattle.std.specs.Prelude.{◌≡◌, ℕ, ◌≤◌, List, [], ◌∷◌, ◌++◌, codes, length, map}
use Rattle.std.specs.Fmt.{decimal}
use Rattle.type_kinds.specs.Quoted.{quoted}
use Rattle.type_text.specs.Texts.{separated, text_of}
use Rattle.core_ast.specs.declared.syntax.FunName.{FunName}
use Rattle.cons_tree.specs.declared.parts.Sig.{Sig}
use Rattle.typer_lines.specs.declared.typing.TheConstants.{MOST_ARGUMENTS}
use Rattle.typer_lines.specs.declared.typing.Typing.{Typing}

-- The signature has as many arguments as the name says. That one of its types is none exactly where all are, its own type says.
pub record IsTyping (t : Typing) : Type 0 where
  pub taken : length t.sig.args ≡ t.name.arity
  pub few : t.name.arity ≤ MOST_ARGUMENTS

-- a function's name and how many arguments it takes, behind its module: :'f'/1
abbrev pub name_text : FunName → List ℕ
name_text f = codes ":" ++ quoted f.name ++ codes "/" ++ decimal f.arity

-- the types of the arguments and the type of the value: (0) -> 'z'
abbrev pub signature_text : Sig → List ℕ
signature_text s = codes "(" ++ separated (codes ",") (map text_of s.args) ++ codes ") -> " ++ text_of s.result

-- the whole line, with the line feed that ends it
abbrev pub typing_line : Typing → List ℕ
typing_line t = quoted t.home ++ name_text t.name ++ codes " " ++ signature_text t.sig ++ 10 ∷ []
