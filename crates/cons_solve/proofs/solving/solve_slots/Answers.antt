use Rattle.std.proofs.Common.{refl}
use Rattle.cons_tree.specs.Constraints.{constraint}
use Rattle.cons_solve.proofs.MemoLaws.{good_blank}
use Rattle.cons_solve.proofs.solving.solve_slots.Goals as goal

pub solve_plan-requires : goal.solve_plan-requires
solve_plan-requires c = good_blank (constraint c.args.c.now) _ c.args.slots.now.types refl
