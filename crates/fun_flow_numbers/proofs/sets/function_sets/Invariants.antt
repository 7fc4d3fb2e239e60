use Rattle.std.proofs.Common.{take, ◌∷◌}
use Rattle.fun_flow_numbers.specs.steps.Numbering.{IsNumbering, first_rule}
use Rattle.fun_flow_numbers.proofs.sets.function_sets.Given as goal

abbrev pub invariant-loop-rule : goal.invariant-loop-rule
invariant-loop-rule l = IsNumbering l.table (first_rule ∷ take l.rule-index l.rules) l.numbering
