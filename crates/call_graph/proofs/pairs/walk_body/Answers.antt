use Rattle.std.proofs.Common.{ap, ◌∙◌}
use Rattle.std.proofs.lemmas.Result.{on_ok_weaker}
use Rattle.core_ast.specs.Tree.{tree}
use Rattle.call_graph.specs.Targets.{targets}
use Rattle.call_graph.specs.steps.Walking.{noting}
use Rattle.call_graph.proofs.pairs.walk_body.Goals as goal

pub returns : goal.returns
returns c = on_ok_weaker c.walk_expression.result (λ one. one ∙ ap (λ w. noting w (targets w.locals (tree c.args.body.now))) c.forget.ensures) c.walk_expression.ensures
