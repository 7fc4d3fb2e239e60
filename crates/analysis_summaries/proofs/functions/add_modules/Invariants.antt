use Rattle.std.proofs.Common.{◌≡◌, ◌++◌, drop, map}
use Rattle.core_scope.specs.Checked.{tree_of}
use Rattle.comp_rounds.specs.Members.{function_of}
use Rattle.analysis_summaries.specs.Functions.{all_functions}
use Rattle.analysis_summaries.proofs.functions.add_modules.Given as goal

abbrev pub invariant-loop-source : goal.invariant-loop-source
invariant-loop-source g l =
    map function_of l.members ++ all_functions (map (λ s. tree_of (g.S.AsChecked.stands_for s)) (drop l.source-index l.mods))
    ≡ all_functions (map (λ s. tree_of (g.S.AsChecked.stands_for s)) l.mods)
