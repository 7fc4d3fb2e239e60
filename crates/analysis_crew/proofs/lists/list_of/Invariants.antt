use Rattle.std.proofs.Common.{◌≡◌, ◌++◌, drop, map}
use Rattle.comp_rounds.specs.Members.{function_of}
use Rattle.analysis_summaries.specs.Functions.{picked}
use Rattle.analysis_crew.specs.Parts.{listed}
use Rattle.analysis_crew.proofs.lists.list_of.Given as goal

abbrev pub invariant-loop-number : goal.invariant-loop-number
invariant-loop-number l =
    l.list ++ map listed (picked (map function_of l.members) (drop l.number-index l.numbers)) ≡ map listed (picked (map function_of l.members) l.numbers)
