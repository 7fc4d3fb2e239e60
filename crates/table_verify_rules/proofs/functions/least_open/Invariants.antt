use Rattle.std.proofs.Common.{map}
use Rattle.cons_tree.specs.Callees.{found}
use Rattle.comp_rounds.specs.Members.{function_of}
use Rattle.table_verify_rules.specs.steps.Components.{first_components}
use Rattle.table_verify_rules.specs.steps.Leasts.{IsLeastOpen}
use Rattle.table_verify_rules.proofs.functions.least_open.Given as goal

abbrev pub invariant-loop-component : goal.invariant-loop-component
invariant-loop-component l =
    IsLeastOpen (map function_of l.members) (found l.known) (first_components (map function_of l.members) l.comps l.component) l.least
