use Rattle.std.proofs.Common.{◌≡◌, ℕ, ◌-◌, length, drop}
use Rattle.core_ast.specs.Tree.{all_defs}
use Rattle.fun_flow_applied.specs.steps.Texts.{name_at, name_with}
use Rattle.fun_flow_applied.proofs.module_text.definitions_by_label.Given as goal

abbrev pub invariant-loop-passed : goal.invariant-loop-passed
invariant-loop-passed l = (k : ℕ) → name_at l.definitions k ≡ name_with (all_defs (drop (length l.defs - l.passed) l.defs)) k
