-- A line, part by part from its front, and what stands behind each part.
use Rattle.std.proofs.Common.{◌≡◌, ℕ, List, [], ◌∷◌, ◌++◌, map, append_assoc}
use Rattle.std.specs.Prelude.{codes}
use Rattle.std.specs.Fmt.{decimal}
use Rattle.type_kinds.specs.Quoted.{quoted}
use Rattle.type_text.specs.Texts.{separated, text_of}
use Rattle.core_ast.specs.declared.syntax.FunName.{FunName}
use Rattle.cons_tree.specs.declared.parts.Sig.{Sig}
use Rattle.typer_lines.specs.declared.typing.Typing.{Typing}
use Rattle.typer_lines.specs.Lines.{name_text, signature_text, typing_line}

-- ---- the module's name, and the function's

abbrev pub behind_name : Typing → List ℕ
behind_name t = codes " " ++ signature_text t.sig ++ 10 ∷ []

abbrev pub behind_home : Typing → List ℕ
behind_home t = name_text t.name ++ behind_name t

regrouped : (a b c d e : List ℕ) → a ++ b ++ c ++ d ++ e ≡ a ++ (b ++ (c ++ d ++ e))
regrouped a b c d e = simp append_assoc

pub line_text : (t : Typing) → typing_line t ≡ quoted t.home ++ behind_home t
line_text t = regrouped (quoted t.home) (name_text t.name) (codes " ") (signature_text t.sig) (10 ∷ [])

-- ---- what stands in these

abbrev pub arity_text : FunName → List ℕ → List ℕ
arity_text f rest = codes "/" ++ (decimal f.arity ++ rest)

pub name_parts : (f : FunName) (rest : List ℕ) → name_text f ++ rest ≡ codes ":" ++ (quoted f.name ++ arity_text f rest)
name_parts f rest = simp append_assoc

-- the type of the value, with the end of the line
abbrev pub result_text : Sig → List ℕ
result_text s = codes ") -> " ++ (text_of s.result ++ 10 ∷ [])

pub signature_parts : (s : Sig) → codes " " ++ signature_text s ++ 10 ∷ [] ≡ codes " (" ++ (separated (codes ",") (map text_of s.args) ++ result_text s)
signature_parts s = simp append_assoc
