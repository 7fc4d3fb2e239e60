use Rattle.std.proofs.Common.{ap, ◌∙◌}
use Rattle.std.specs.Prelude.{slice_set}
use Rattle.core_ast.specs.Tree.{all_steps}
use Rattle.core_ast.proofs.NotedTrees.{first_noted}
use Rattle.core_ast.proofs.notes.note_first.Goals as goal

pub returns : goal.returns
returns c = ap all_steps (c.replace-unused.ensures.after ∙ ap (λ xs. slice_set xs 0 c.with_note.result) c.replace-first.ensures.after) ∙ first_noted _ _ _ _ _ c.replace-first.ensures.before c.with_note.ensures
