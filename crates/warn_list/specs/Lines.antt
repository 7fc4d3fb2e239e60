-- The text of findings, a line each.
use Rattle.std.specs.Prelude.{◌≡◌, ℕ, List, [], ◌∷◌, ◌++◌, codes}
use Rattle.std.specs.Fmt.{decimal}
use Rattle.type_kinds.specs.declared.atom.Atom.{Atom}
use Rattle.type_kinds.specs.Quoted.{quoted}
use Rattle.core_ast.specs.declared.syntax.FunName.{FunName}
use Rattle.warn_list.specs.declared.finding.Finding.{Finding}
use Rattle.warn_list.specs.declared.finding.FindingKind.{FindingKind}
use Rattle.warn_list.specs.declared.finding.FindingKind.TheVariants as k
use Rattle.warn_list.specs.declared.finding.CallText.{CallText}
use Rattle.warn_list.specs.declared.finding.CallText.TheVariants as c
use Rattle.warn_list.specs.Order.{AreInOrder}

-- 'f'/1
abbrev pub name_text : FunName → List ℕ
name_text f = quoted f.name ++ codes "/" ++ decimal f.arity

-- 'm':'f'/1
abbrev pub remote_text : Atom → FunName → List ℕ
remote_text home f = quoted home ++ codes ":" ++ name_text f

abbrev pub callee_text : CallText → List ℕ
callee_text (c.Local f) = codes "the call " ++ name_text f
callee_text (c.Remote home f) = codes "the call " ++ remote_text home f
callee_text (c.Value n) = codes "the call of a value with " ++ decimal n ++ codes " arguments"

abbrev pub kind_text : FindingKind → List ℕ
kind_text (k.NoReturn f) = codes "function " ++ name_text f ++ codes " has no local return"
kind_text (k.DeadCall callee) = callee_text callee ++ codes " never returns"
kind_text k.DeadClause = codes "this clause can never match"
kind_text (k.NeverCalled f) = codes "function " ++ name_text f ++ codes " is never called"
kind_text (k.UnknownFunction home f) = codes "unknown function " ++ remote_text home f

-- 'm':12: text
abbrev pub line_of : Atom → Finding → List ℕ
line_of home f = quoted home ++ codes ":" ++ decimal f.line ++ codes ": " ++ kind_text f.kind ++ 10 ∷ []

abbrev pub lines_of : Atom → List Finding → List ℕ
lines_of home [] = []
lines_of home (f ∷ fs) = line_of home f ++ lines_of home fs

-- The bytes are the lines of the findings, in order.
pub record AreLines (home : Atom) (findings : List Finding) (bytes : List ℕ) : Type 0 where
  pub ordered : List Finding
  pub in_order : AreInOrder findings ordered
  pub written : bytes ≡ lines_of home ordered
