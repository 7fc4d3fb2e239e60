use Rattle.std.proofs.Common.{List, ◌++◌, map, take}
use Rattle.cons_tree.specs.Callees.{found}
use Rattle.comp_rounds.specs.Members.{function_of}
use Rattle.comp_rounds.specs.Rounds.{Function}
use Rattle.analysis_summaries.specs.Functions.{picked}
use Rattle.table_verify_rules.specs.steps.Leasts.{IsLeastOpen}
use Rattle.table_verify_rules.proofs.functions.with_members.Given as goal

abbrev pub invariant-loop-number : goal.invariant-loop-number
invariant-loop-number l =
    (before : List Function) → IsLeastOpen (map function_of l.members) (found l.known) before l.fn.least
    → IsLeastOpen (map function_of l.members) (found l.known) (before ++ picked (map function_of l.members) (take l.number-index l.numbers)) l.least
