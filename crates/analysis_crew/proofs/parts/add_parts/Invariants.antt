use Rattle.std.proofs.Common.{◌≡◌, length, map}
use Rattle.cons_tree.specs.Callees.{found}
use Rattle.comp_rounds.specs.Members.{function_of}
use Rattle.analysis_crew.specs.steps.Making.{AreMadeOf}
use Rattle.analysis_crew.proofs.parts.add_parts.Given as goal

abbrev pub invariant-loop-component : goal.invariant-loop-component
invariant-loop-component l =
    (length l.parts ≡ l.component) × AreMadeOf (map function_of l.members) (found l.first) l.outside l.lists l.comps l.parts
