use Rattle.std.proofs.Common.{◌≡◌, ◌++◌, drop, map}
use Rattle.core_ast.specs.Tree.{all_defs}
use Rattle.core_scope.specs.Checked.{module_of, tree_of}
use Rattle.call_graph.specs.Calls.{module_functions}
use Rattle.comp_rounds.specs.Members.{function_of}
use Rattle.analysis_summaries.specs.Functions.{summarized}
use Rattle.analysis_summaries.proofs.Members.{summarized_in}
use Rattle.analysis_summaries.proofs.functions.add_members.Given as goal

abbrev pub invariant-loop-at : goal.invariant-loop-at
invariant-loop-at l =
    map function_of l.members ++ summarized_in (module_of l.checked).name (module_of l.checked).exports (all_defs (drop l.at (module_of l.checked).defs))
    ≡ map function_of l.fn.members ++ map summarized (module_functions (tree_of l.checked))
