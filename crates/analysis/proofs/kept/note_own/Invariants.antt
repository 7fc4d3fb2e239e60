use Rattle.std.proofs.Common.{◌≡◌, ◌++◌, map, take}
use Rattle.cons_tree.specs.Callees.{found}
use Rattle.analysis.specs.Keeping.{rest_of}
use Rattle.analysis.proofs.kept.note_own.Given as goal

abbrev pub invariant-loop-def : goal.invariant-loop-def
invariant-loop-def l = l.rests ≡ l.fn.rests ++ map (λ d. rest_of (found l.known) l.home d.name) (take l.def-index l.defs)
