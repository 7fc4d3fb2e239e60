use Rattle.std.proofs.Common.{◌≡◌, map}
use Rattle.cons_tree.specs.Callees.{as_called, found}
use Rattle.table_keep.specs.Made.{used_of}
use Rattle.table_keep.specs.Model.{used_so}
use Rattle.table_keep.proofs.made.used_from.Given as goal

abbrev pub invariant-loop-call : goal.invariant-loop-call
invariant-loop-call l = map used_so l.used ≡ used_of l.group (λ h f. as_called (found l.known h f)) l.yielded
