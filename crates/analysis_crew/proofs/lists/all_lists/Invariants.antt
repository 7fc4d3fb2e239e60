use Rattle.std.proofs.Common.{◌≡◌, map}
use Rattle.components.specs.Numbering.{members_of}
use Rattle.comp_rounds.specs.Members.{function_of}
use Rattle.summary_board.specs.Calls.{each_below}
use Rattle.analysis_summaries.specs.Functions.{picked}
use Rattle.analysis_crew.specs.Parts.{listed}
use Rattle.analysis_crew.proofs.lists.all_lists.Given as goal

abbrev pub invariant-loop-component : goal.invariant-loop-component
invariant-loop-component l =
    l.lists ≡ each_below l.component (λ n. map listed (picked (map function_of l.members) (members_of l.comps n)))
