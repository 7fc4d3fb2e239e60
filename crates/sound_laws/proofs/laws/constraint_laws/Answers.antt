use Rattle.core_meaning.specs.Runs.{IsOutside}
use Rattle.sound_laws.proofs.Expressions.{every_extends}
use Rattle.sound_laws.proofs.Summaries.{definition_satisfied, solution_has_call}
use Rattle.sound_laws.proofs.laws.constraint_laws.Goals as goal

pub returns-clause-expression : goal.returns-clause-expression
returns-clause-expression c P U stage fuel honest = every_extends c.facts.ensures P U (IsOutside U stage) honest fuel

pub returns-clause-definition : goal.returns-clause-definition
returns-clause-definition c P U stage fuel honest home xs t vs v tr n h g = definition_satisfied c.facts.ensures P U (IsOutside U stage) honest fuel home xs t vs v tr n h g

pub returns-clause-solution : goal.returns-clause-solution
returns-clause-solution c P U stage fuel honest home xs t vs v tr n h g = solution_has_call c.facts.ensures P U (IsOutside U stage) honest c.solution_facts.ensures fuel home xs t vs v tr n h g
