use Rattle.std.proofs.Common.{◌≡◌, ℕ, ◌<◌, [], length, get_or}
use Rattle.summary_board.specs.Ascending.{AscendsBelow}
use Rattle.worker_crew_tests.proofs.chains.Chains.new.Given as goal

abbrev pub invariant-loop-c : goal.invariant-loop-c
invariant-loop-c l =
    (length l.parts ≡ l.c) × (length l.callees ≡ l.c) × ((k : ℕ) → k < l.c → AscendsBelow k (get_or l.callees k []))
