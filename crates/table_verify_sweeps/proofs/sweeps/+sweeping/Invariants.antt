use Rattle.std.proofs.Common.{◌≡◌, ℕ, ◌+◌, ◌*◌, ◌<◌, Some, length, get_or, drop}
use Rattle.cons_tree.specs.Constraints.{all_of, constraint, constraints}
use Rattle.cons_tree.specs.Trails.{Trailed}
use Rattle.cons_tree.specs.declared.parts.Constraint.{Constraint}
use Rattle.cons_solve.specs.Environments.{environments, ranks, solution}
use Rattle.cons_solve.specs.steps.Alternatives.{Kept, best_of}
use Rattle.cons_solve.specs.steps.Passes.{unions, merged}
use Rattle.cons_solve.proofs.MemberLaws.{weight, weights}
use Rattle.table_verify_sweeps.specs.steps.Memos.{memos, AreRight}
use Rattle.table_verify_sweeps.specs.steps.Turns.{position_of}
use Rattle.table_verify_sweeps.proofs.sweeps.+sweeping.Given as goal

abbrev pub decreases-solve : goal.decreases-solve
decreases-solve l = 2 * weight (constraint l.c.now) + 1

abbrev pub decreases-settle_kind : goal.decreases-settle_kind
decreases-settle_kind l = 2 * weight (constraint l.c.now)

abbrev pub decreases-settle_all : goal.decreases-settle_all
decreases-settle_all l = 2 * weights (constraints l.members.now) + 1

abbrev pub decreases-sweep : goal.decreases-sweep
decreases-sweep l = 2 * weights (constraints l.members.now)

abbrev pub decreases-join_all : goal.decreases-join_all
decreases-join_all l = 2 * weights (constraints l.members.now) + 1

abbrev pub invariant-settle_all-sweeps : goal.invariant-settle_all-sweeps
invariant-settle_all-sweeps l = record {
  same : solution (all_of (constraints l.members)) l.slots.types ≡ solution (all_of (constraints l.members)) l.initial.slots.types;
  trailed : Trailed l.initial.slots l.slots;
  right : AreRight (constraints l.members) (memos l.kept) l.slots.types;
}

abbrev pub decreases-settle_all-sweeps : goal.decreases-settle_all-sweeps
decreases-settle_all-sweeps l = ranks l.slots.types

abbrev pub invariant-sweep-loop-turn : goal.invariant-sweep-loop-turn
invariant-sweep-loop-turn l = record {
  same : solution (all_of (constraints l.members)) l.slots.types ≡ solution (all_of (constraints l.members)) l.initial.slots.types;
  trailed : Trailed l.initial.slots l.slots;
  right : AreRight (constraints l.members) (memos l.kept) l.slots.types;
  stays : length l.slots.trail ≡ length l.initial.slots.trail → (j : ℕ) → j < l.turn → (x : Constraint)
      → solution (constraint (get_or l.members (position_of l.forward (length l.members) j) x)) l.slots.types ≡ Some l.slots.types;
}

abbrev pub invariant-join_all-loop-at : goal.invariant-join_all-loop-at
invariant-join_all-loop-at l = record {
  types : l.slots.types ≡ l.initial.slots.types;
  trail : l.slots.trail ≡ l.initial.slots.trail;
  best : Kept l.best l.slots.types;
  right : AreRight (constraints l.members) (memos l.kept) l.slots.types;
  rest : merged environments (best_of l.best l.slots.types) (constraints (drop l.at l.members)) l.slots.types ≡ unions environments (constraints l.members) l.initial.slots.types;
}
