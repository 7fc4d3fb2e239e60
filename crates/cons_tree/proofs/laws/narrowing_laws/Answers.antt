use Rattle.std.proofs.Common.{Some, subst}
use Rattle.cons_tree.specs.Environments.{IsBelow}
use Rattle.cons_tree.proofs.PartLaws.{lawful_part, keeps_part}
use Rattle.cons_tree.proofs.laws.narrowing_laws.Goals as goal

pub returns-clause-below : goal.returns-clause-below
returns-clause-below c = λ p xs ys e. subst (λ r. IsBelow r (Some xs)) e ((lawful_part c.type_facts.ensures p).sinks xs)

pub returns-clause-alive : goal.returns-clause-alive
returns-clause-alive c = λ p. (lawful_part c.type_facts.ensures p).lives

pub returns-clause-monotone : goal.returns-clause-monotone
returns-clause-monotone c = λ p. (lawful_part c.type_facts.ensures p).grows

pub returns-clause-keeps : goal.returns-clause-keeps
returns-clause-keeps c = λ p a xs l h. keeps_part c.type_facts.ensures a p h xs l
