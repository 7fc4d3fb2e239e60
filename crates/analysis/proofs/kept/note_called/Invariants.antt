use Rattle.std.proofs.Common.{◌≡◌, ◌++◌, map, take}
use Rattle.cons_tree.specs.Callees.{found}
use Rattle.analysis.specs.Keeping.{rest_of}
use Rattle.analysis.proofs.kept.note_called.Given as goal

abbrev pub invariant-loop-call : goal.invariant-loop-call
invariant-loop-call l = l.rests ≡ l.fn.rests ++ map (λ c. rest_of (found l.known) c.0 c.1) (take l.call-index l.called)
