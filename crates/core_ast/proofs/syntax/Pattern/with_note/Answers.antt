use Rattle.std.proofs.Common.{refl}
use Rattle.core_ast.proofs.NotedTrees.{pattern_noted}
use Rattle.core_ast.proofs.syntax.Pattern.with_note.Goals as goal

pub returns : goal.returns
returns c = pattern_noted c.args.note c.args.self _ refl c.with_note.ensures
