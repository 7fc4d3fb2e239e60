-- The funs of definitions.
use Rattle.std.specs.Prelude.{◌≡◌, ℕ, ◌+◌, List, [], ◌∷◌}
use Rattle.core_scan.specs.declared.token.Token.{Token}
use Rattle.core_ast.specs.declared.syntax.Mark.{Mark}
use Rattle.core_ast.specs.declared.syntax.VarName.{VarName}
use Rattle.core_ast.specs.declared.syntax.FunDefOf.{FunDefOf}
use Rattle.core_ast.specs.Model as m
use Rattle.core_parse_grammar.specs.declared.fault.PartFault.{PartFault}
use Rattle.core_parse_grammar.specs.Build.{Noted, FunctionParts, with_note, note_function}
use Rattle.core_parse_grammar.specs.Grammar.{the, noted_, definition, function}
use Rattle.core_parse_grammar.specs.Labels.{labelled, number}
use Rattle.core_parse_grammar.specs.Track.{Branch, Goes, Passes, itself, said}
use Rattle.core_parse_grammar.specs.Faults.{Refuses}

-- The fun of a definition, whose mark has the label n.
pub record ReadsFunction (d n : ℕ) (ts : List Token) (made : Mark) (params : List VarName) (body : m.Tree) (left : List Token) (p : ℕ) : Type 0 where
  pub says : FunctionParts
  pub passes : Passes (function d) ts says left
  pub mark_is : labelled n says.mark ≡ made
  pub params_are : says.params ≡ params
  pub agrees : number (n + 1) says.body ≡ (body, p)

-- Where a fun stands in its definition, with or without annotation brackets. There no slash follows it.
abbrev pub fun_branch : (d : ℕ) → (Noted FunctionParts → FunDefOf m.Tree) → Branch (definition d)
fun_branch d f = record { parts = the (noted_ (the (function d))) ∷ []; build = f }

-- The fun is read, with or without annotation brackets, in whatever definition it stands.
pub record ReadsNotedFunction (d n : ℕ) (ts : List Token) (made : Mark) (params : List VarName) (body : m.Tree) (left : List Token) (p : ℕ) : Type 0 where
  pub says : Noted FunctionParts
  pub goes : (f : Noted FunctionParts → FunDefOf m.Tree) → Goes (definition d) (fun_branch d f ∷ []) (said (definition d) (f says)) ts left
  pub mark_is : labelled n (with_note note_function says).mark ≡ made
  pub params_are : says.value.params ≡ params
  pub agrees : number (n + 1) says.value.body ≡ (body, p)

-- The fun is refused, in whatever definition it stands.
abbrev pub RefusesNotedFunction : ℕ → List Token → PartFault → Type 0
RefusesNotedFunction d us e = (f : Noted FunctionParts → FunDefOf m.Tree) (ts : List Token) → Goes (definition d) (itself (definition d)) (fun_branch d f ∷ []) ts us → Refuses (definition d) ts e
