use Rattle.std.proofs.Common.{◌≡◌, map}
use Rattle.cons_tree.specs.Callees.{found}
use Rattle.comp_rounds.specs.Members.{function_of}
use Rattle.analysis_summaries.specs.Known.{after_components}
use Rattle.analysis_summaries.proofs.known.solve_all.Given as goal

abbrev pub invariant-loop-component : goal.invariant-loop-component
invariant-loop-component l =
    found l.known ≡ after_components (found l.fn.known) (map function_of l.members) l.comps l.component
