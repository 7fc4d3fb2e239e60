use Rattle.std.proofs.Common.{drop}
use Rattle.core_ast.specs.Tree.{all_defs}
use Rattle.cons_tree.specs.Callees.{found}
use Rattle.module_flow_calls.specs.Unknown.{def_namings}
use Rattle.module_flow_calls.specs.steps.FirstCalls.{Leads}
use Rattle.module_flow_calls.proofs.unknown.note_module.Given as goal

abbrev pub invariant-loop-def : goal.invariant-loop-def
invariant-loop-def l = Leads (found l.known) l.walk (def_namings l.around (all_defs (drop l.def-index l.defs))) l.fn.walk (def_namings l.around (all_defs l.defs))
