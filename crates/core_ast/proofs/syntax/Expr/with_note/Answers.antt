use Rattle.std.proofs.Common.{refl}
use Rattle.core_ast.proofs.NotedTrees.{chain_noted, other_noted}
use Rattle.core_ast.proofs.syntax.Expr.with_note.Goals as goal

pub returns-in-Chain : goal.returns-in-Chain
returns-in-Chain c = chain_noted c.args.note c.args.self _ c.in-Chain.steps c.note_first.result c.in-Chain.last c.in-Chain.is refl refl c.note_first.ensures

pub returns-in_default : goal.returns-in_default
returns-in_default c = other_noted c.args.note c.args.self _ refl c.with_note.ensures c.in_default.not-Chain
