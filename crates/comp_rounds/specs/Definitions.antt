-- Definitions of accepted modules.
use Rattle.std.specs.Prelude.{Contains}
use Rattle.core_ast.specs.declared.syntax.Expr.{Expr}
use Rattle.core_ast.specs.declared.syntax.FunDefOf.{FunDefOf}
use Rattle.core_scope.specs.Checked.{module_of}
use Rattle.core_scope.specs.declared.checked.Checked.{Checked}

-- the definition is one of those that an accepted module has at its top
abbrev pub IsDefinition : FunDefOf Expr → Type 0
IsDefinition d = ∥ ((c : Checked) × Contains (module_of c).defs d) ∥₁
