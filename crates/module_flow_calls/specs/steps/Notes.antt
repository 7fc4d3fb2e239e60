-- The notes of steps.
use Rattle.core_ast.specs.declared.syntax.Expr.{Expr}
use Rattle.core_ast.specs.declared.syntax.Note.{Note}
use Rattle.core_ast.specs.declared.syntax.StepOf.{StepOf}
use Rattle.core_ast.specs.declared.syntax.StepOf.TheVariants.{Let, Do}

-- the note of a step
abbrev pub step_note : StepOf Expr → Note
step_note (Let k xs e) = k.note
step_note (Do k e) = k.note
