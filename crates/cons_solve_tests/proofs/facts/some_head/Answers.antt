use Rattle.std.proofs.Common.{sym, ap, ◌∙◌}
use Rattle.type_lattice_model.specs.Values.{cons}
use Rattle.cons_solve_tests.proofs.facts.some_head.Goals as goal

pub returns : goal.returns
returns c = λ a t n rest head list has. ((has, tt), (rest, list ∙ ap (λ x. cons x rest) (sym head)))
