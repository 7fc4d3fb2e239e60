use Rattle.std.proofs.Common.{ap, ◌∙◌}
use Rattle.core_ast.specs.declared.syntax.Expr.{Expr}
use Rattle.core_ast.specs.declared.syntax.Pattern.{Pattern}
use Rattle.core_parse_grammar.specs.Pairs.{read_pattern_pair}
use Rattle.core_parse_grammar.proofs.part_nodes.with_pattern_pair.Goals as goal

pub returns-then-added : goal.returns-then-added
returns-then-added c = (
  c.new-pair.result,
  c.new-pair.ensures ∙ ap (λ (x : Expr). read_pattern_pair x c.into_inner-2.result) c.into_inner.ensures ∙ ap (λ (x : Pattern). read_pattern_pair c.args.key x) c.into_inner-2.ensures,
  c.if-added.ensures.added,
)
