use Rattle.std.proofs.Common.{◌≡◌, ℕ, get_or}
use Rattle.cons_solve.specs.declared.plan.Plan.TheVariants.{Blank}
use Rattle.cons_solve.proofs.plan.blanks.Given as goal

abbrev pub invariant-loop-member : goal.invariant-loop-member
invariant-loop-member l = (i : ℕ) → get_or l.plans i Blank ≡ Blank
