use Rattle.std.proofs.Common.{Some, subst}
use Rattle.cons_solve.specs.Environments.{environments, solution}
use Rattle.cons_solve.specs.Solutions as W
use Rattle.cons_solve.proofs.FrameLaws.{solution_same}
use Rattle.cons_solve.proofs.KeepLaws.{solution_filled, lies_in_solution}
use Rattle.cons_solve.proofs.OrderLaws.{is_below}
use Rattle.cons_solve.proofs.SolutionLaws as S
use Rattle.cons_solve.proofs.TurnLaws.{solution_below}
use Rattle.cons_solve.proofs.laws.solution_laws.Goals as goal

pub returns-clause-below : goal.returns-clause-below
returns-clause-below c = λ k xs ys h. solution_below c.environment_laws.ensures.laws k xs ys h

pub returns-clause-solves : goal.returns-clause-solves
returns-clause-solves c = λ k xs ys h. subst (W.Holds environments (W.Solves environments k)) h (S.is_greatest environments c.environment_laws.ensures.laws k xs).holds

pub returns-clause-greatest : goal.returns-clause-greatest
returns-clause-greatest c = λ k xs ys b q. is_below (Some ys) (solution k xs) ((S.is_greatest environments c.environment_laws.ensures.laws k xs).above ys b q)

pub returns-clause-unique : goal.returns-clause-unique
returns-clause-unique c = λ k xs s g. S.greatest_is environments c.environment_laws.ensures.laws k xs s g

pub returns-clause-monotone : goal.returns-clause-monotone
returns-clause-monotone c = λ k xs ys h. is_below (solution k xs) (solution k ys) (S.greatest_grows environments c.environment_laws.ensures.laws k xs ys h)

pub returns-clause-alive : goal.returns-clause-alive
returns-clause-alive c = λ k xs ys h e. solution_filled c.type_facts.ensures c.environment_laws.ensures.laws c.narrowing_laws.ensures.alive k xs ys h e

pub returns-clause-keeps : goal.returns-clause-keeps
returns-clause-keeps c = λ k a xs h s. lies_in_solution c.environment_laws.ensures.laws a (λ p ys. c.narrowing_laws.ensures.keeps p a ys) k xs h s

pub returns-clause-frame : goal.returns-clause-frame
returns-clause-frame c = λ k s t xs d. solution_same c.type_facts.ensures c.frame_law.ensures c.environment_laws.ensures.laws k s t xs d
