use Rattle.std.proofs.Common.{refl, subst}
use Rattle.cons_tree.specs.Constraints.{constraint}
use Rattle.cons_solve.specs.Environments.{environments, Solves}
use Rattle.cons_solve.specs.Solutions.{IsGreatest}
use Rattle.cons_solve.proofs.SolutionLaws as S
use Rattle.table_verify_sweeps.proofs.KeptLaws.{of_blank}
use Rattle.table_verify_sweeps.proofs.sweeps.settle.Goals as goal

pub solve-requires : goal.solve-requires
solve-requires c = of_blank (constraint c.args.c.now) _ c.args.slots.now.types refl

pub returns-clause-greatest : goal.returns-clause-greatest
returns-clause-greatest c =
    subst (IsGreatest environments (Solves (constraint c.args.c.now)) c.args.slots.now.types) c.in_ok-alive.ensures.value (S.is_greatest environments c.environment_laws.ensures.laws (constraint c.args.c.now) c.args.slots.now.types)
