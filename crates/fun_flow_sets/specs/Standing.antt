-- Expressions that stand in a program, with their clauses and definitions: the words of the laws that say the rules one by one.
use Rattle.std.specs.Prelude.{◌≡◌, ℕ, zero, suc, List, [], ◌∷◌}
use Rattle.type_kinds.specs.declared.atom.Atom.{Atom}
use Rattle.core_ast.specs.declared.syntax.FunName.{FunName}
use Rattle.core_ast.specs.declared.syntax.Mark.{Mark}
use Rattle.core_ast.specs.declared.syntax.VarName.{VarName}
use Rattle.core_ast.specs.Model as m
use Rattle.core_scope.specs.declared.ask.Ask.{Ask}
use Rattle.core_meaning.specs.Programs.{Program}
use Rattle.fun_flow_sets.specs.Items.{Place, Rule}
use Rattle.fun_flow_sets.specs.Rules.{rules, IsAmong, IsRule}
use Rattle.fun_flow_sets.specs.Scopes.{Scope, first, rest, with_heads}

-- The expression stands in the program, in a scope of a module, and is asked for some values: its rules are the program's.
abbrev pub Stands : Program → Atom → Scope → Ask → m.Tree → Type 0
Stands U home sc k t = (r : Rule) → IsAmong (rules U home sc k t) r → IsRule U r

-- the place of this number; one that is missing is anywhere
abbrev pub place_at : List Place → ℕ → Place
place_at ps zero = first ps
place_at ps (suc n) = place_at (rest ps) n

-- Clauses that are tried in a scope with values at some places have one with this body, which stands in the second scope.
pub data HasClause (sc : Scope) (qs : List Place) : m.Clauses → Scope → m.Tree → Type 0 where
  this_clause : {i : Mark} {ps : m.Patterns} {g t : m.Tree} {cs : m.Clauses} → HasClause sc qs (m.and_clause i ps g t cs) (with_heads qs ps sc) t
  later_clause : {i : Mark} {ps : m.Patterns} {g t : m.Tree} {cs : m.Clauses} {inner : Scope} {u : m.Tree} → HasClause sc qs cs inner u → HasClause sc qs (m.and_clause i ps g t cs) inner u

-- Among the definitions is one with this label, these parameters and this body.
pub data HasDefinition : m.Defs → Mark → List VarName → m.Tree → Type 0 where
  this_definition : {f : FunName} {i : Mark} {xs : List VarName} {t : m.Tree} {ds : m.Defs} → HasDefinition (m.and_def f i xs t ds) i xs t
  later_definition : {f : FunName} {i j : Mark} {xs ys : List VarName} {t u : m.Tree} {ds : m.Defs} → HasDefinition ds j ys u → HasDefinition (m.and_def f i xs t ds) j ys u

-- none of the variables has this name
abbrev pub AreOthers : Atom → List VarName → Type 0
AreOthers y [] = Unit {0}
AreOthers y (x ∷ xs) = (x.name ≡ y → ⊥) × AreOthers y xs
