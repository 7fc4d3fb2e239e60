use Rattle.std.proofs.Common.{length}
use Rattle.core_scan.proofs.PassLemmas.{OnTheWay}
use Rattle.core_scan.proofs.scanner.scan.Given as goal

abbrev pub invariant-loop-rest : goal.invariant-loop-rest
invariant-loop-rest l = OnTheWay l.text l.place l.rest l.tokens

abbrev pub decreases-loop-rest : goal.decreases-loop-rest
decreases-loop-rest l = length l.rest
