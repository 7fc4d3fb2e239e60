use Rattle.std.proofs.Common.{take}
use Rattle.std.specs.Prelude.{All}
use Rattle.cons_tree.specs.Callees.{found}
use Rattle.analysis.specs.Keeping.{IsStill}
use Rattle.analysis.proofs.kept.stands.Given as goal

abbrev pub invariant-loop-rest : goal.invariant-loop-rest
invariant-loop-rest l = All (IsStill (found l.known)) (take l.rest-index l.rests)
