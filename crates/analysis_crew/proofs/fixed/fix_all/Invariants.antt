use Rattle.std.proofs.Common.{◌≡◌, drop, map}
use Rattle.cons_tree.specs.Callees.{found}
use Rattle.comp_rounds.specs.Members.{function_of}
use Rattle.analysis_crew.specs.steps.Fixing.{fixed_by}
use Rattle.analysis_crew.proofs.fixed.fix_all.Given as goal

abbrev pub invariant-loop-number : goal.invariant-loop-number
invariant-loop-number l =
    fixed_by (found l.first) (map function_of l.members) l.outside (found l.fixed) (drop l.number-index l.numbers)
    ≡ fixed_by (found l.first) (map function_of l.members) l.outside (found l.fn.fixed) l.numbers
