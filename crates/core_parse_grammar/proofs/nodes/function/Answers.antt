use Rattle.std.proofs.Common.{ap, ◌∙◌}
use Rattle.std.proofs.lemmas.Result.{IfOk-weaker}
use Rattle.core_ast.specs.Tree.{tree}
use Rattle.core_ast.proofs.Trees.{tree-is, tree-Fun}
use Rattle.core_parse_grammar.proofs.nodes.function.Goals as goal

pub returns : goal.returns
returns c = IfOk-weaker c.boxed.result _ _ (λ made is. ap tree is ∙ tree-is _ ∙ tree-Fun _ _) c.boxed.ensures
