use Rattle.std.proofs.Common.{◌≡◌, drop}
use Rattle.core_ast.specs.Tree.{all_defs}
use Rattle.module_flow_calls.specs.steps.Gathering.{defined_around, noting, in_defs}
use Rattle.module_flow_calls.proofs.names.note_module.Given as goal

abbrev pub invariant-loop-def : goal.invariant-loop-def
invariant-loop-def l = noting l.walk (in_defs (defined_around l.walk) (all_defs (drop l.def-index l.defs))) ≡ noting l.fn.walk (in_defs (defined_around l.fn.walk) (all_defs l.defs))
