use Rattle.std.proofs.Common.{◌≡◌, ◌++◌, drop, map}
use Rattle.comp_rounds.specs.Members.{function_of}
use Rattle.analysis_summaries.specs.Functions.{picked}
use Rattle.analysis_summaries.proofs.functions.add_numbers.Given as goal

abbrev pub invariant-loop-number : goal.invariant-loop-number
invariant-loop-number l =
    map function_of l.found ++ picked (map function_of l.members) (drop l.number-index l.numbers) ≡ picked (map function_of l.members) l.numbers
