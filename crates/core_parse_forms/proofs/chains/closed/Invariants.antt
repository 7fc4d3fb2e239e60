use Rattle.std.proofs.Common.{◌+◌, ◌<◌, ◌≤◌, length}
use Rattle.core_ast.specs.Tree.{tree}
use Rattle.core_parse_grammar.specs.Weights.{weight}
use Rattle.core_parse_forms.proofs.ChainExits.{Closing}
use Rattle.core_parse_forms.proofs.chains.closed.Given as goal

abbrev pub invariant-loop-frame : goal.invariant-loop-frame
invariant-loop-frame l = record {
  so_far : Closing l.depth l.label l.first.place l.tokens l.left l.frames l.done (tree l.last) l.next_label;
  labels : l.next_label + weight l.left ≤ l.label + weight l.tokens;
  shorter : length l.left < length l.tokens;
}

abbrev pub decreases-loop-frame : goal.decreases-loop-frame
decreases-loop-frame l = length l.frames
