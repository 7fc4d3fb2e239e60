use Rattle.core_meaning.specs.Runs.{IsOutside}
use Rattle.core_meaning.proofs.WorkedForms.{parts, choices, calls}
use Rattle.core_meaning.proofs.WorkedPatterns.{matches, misses}
use Rattle.core_meaning.proofs.WorkedFunctions.{functions, stages}
use Rattle.core_meaning.proofs.laws.worked_rows.Goals as goal

pub returns-clause-parts : goal.returns-clause-parts
returns-clause-parts c U stage home env k = parts U (λ v. IsOutside U stage v) home env k

pub returns-clause-choices : goal.returns-clause-choices
returns-clause-choices c U stage home env k = choices U (λ v. IsOutside U stage v) home env k

pub returns-clause-calls : goal.returns-clause-calls
returns-clause-calls c U stage home env k = calls U (λ v. IsOutside U stage v) home env k c.worked_calls.ensures.sum

pub returns-clause-matches : goal.returns-clause-matches
returns-clause-matches c U stage env k = matches (λ v. IsOutside U stage v) env k

pub returns-clause-misses : goal.returns-clause-misses
returns-clause-misses c k = misses k

pub returns-clause-functions : goal.returns-clause-functions
returns-clause-functions c = functions

pub returns-clause-stages : goal.returns-clause-stages
returns-clause-stages c = stages
