use Rattle.std.proofs.Common.{◌≡◌, ℕ, ◌<◌}
use Rattle.std.specs.Prelude.{slice_index, slice_index_or}
use Rattle.fun_flow_solver.specs.declared.problem.Application.{Application}
use Rattle.fun_flow_solver.specs.steps.Work.{Keeps, IsApplied}
use Rattle.fun_flow_solver.proofs.work.apply_all.Given as goal

abbrev pub invariant-loop-number : goal.invariant-loop-number
invariant-loop-number l =
    Keeps l.problem l.initial.sets l.initial.out l.initial.queue.items l.sets l.out l.queue.items
    × ((j : ℕ) → j < l.number-index → (c : Application) → slice_index_or l.problem.applications.items (slice_index l.number-items j) c ≡ c → IsApplied l.problem l.sets l.out c l.item)
