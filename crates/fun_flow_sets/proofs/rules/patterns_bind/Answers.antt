use Rattle.std.proofs.Common.{refl}
use Rattle.fun_flow_sets.proofs.rules.patterns_bind.Goals as goal

pub returns-clause-variables : goal.returns-clause-variables
returns-clause-variables c q sc i x = refl

pub returns-clause-lists : goal.returns-clause-lists
returns-clause-lists c q sc i ps p = refl

pub returns-clause-tuples : goal.returns-clause-tuples
returns-clause-tuples c q sc i ps = refl

pub returns-clause-maps : goal.returns-clause-maps
returns-clause-maps c q sc i t p ps = refl

pub returns-clause-binaries : goal.returns-clause-binaries
returns-clause-binaries c q sc i p ts ss = refl

pub returns-clause-aliases : goal.returns-clause-aliases
returns-clause-aliases c q sc i x p = refl
