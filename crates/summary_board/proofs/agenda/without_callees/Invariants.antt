use Rattle.std.proofs.Common.{◌≡◌, ◌↔◌, ◌<◌, ◌≤◌, ◌*◌, ℕ, [], length}
use Rattle.summary_board.specs.Machine.{called}
use Rattle.summary_board.specs.steps.Rows.{IsMarked}
use Rattle.summary_board.proofs.agenda.without_callees.Given as goal

abbrev pub invariant-loop-c : goal.invariant-loop-c
invariant-loop-c l = (length l.callees ≤ 64 * length l.ready) × ((k : ℕ) → IsMarked l.ready k ↔ ((k < l.c) × (called l.callees k ≡ [])))
