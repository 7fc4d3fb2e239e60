use Rattle.table_keep.specs.steps.Members.{AreGroupsOf}
use Rattle.table_keep.proofs.grouping.group_list.Given as goal

abbrev pub invariant-loop-component : goal.invariant-loop-component
invariant-loop-component l = AreGroupsOf l.found.entries l.comps l.groups l.component
