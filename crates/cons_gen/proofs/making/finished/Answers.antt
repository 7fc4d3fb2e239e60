use Rattle.std.proofs.Common.{map, ap, ◌∙◌}
use Rattle.cons_tree.specs.Constraints.{constraint}
use Rattle.cons_gen_rows.specs.Words.{together}
use Rattle.cons_gen.proofs.making.finished.Goals as goal
use Rattle.cons_tree.proofs.TreeLaws.{of_all}

pub returns-clause-constraint : goal.returns-clause-constraint
returns-clause-constraint c = of_all c.from_vec.result ∙ ap (λ l. together (map constraint l)) c.from_vec.ensures
