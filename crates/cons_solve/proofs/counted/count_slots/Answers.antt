use Rattle.std.proofs.Common.{◌≡◌, ap, ◌∙◌}
use Rattle.std.proofs.lemmas.Result.{IfOk-weaker}
use Rattle.cons_tree.specs.Constraints.{all_of, constraint, constraints}
use Rattle.cons_tree.specs.Trails.{answer}
use Rattle.cons_solve.specs.Environments.{solution}
use Rattle.cons_solve.proofs.MemberLaws.{of_all}
use Rattle.cons_solve.proofs.counted.count_slots.Goals as goal

pub returns-in-All-clause-value : goal.returns-in-All-clause-value
returns-in-All-clause-value g c =
    let xs = c.args.slots.now.types in
    let ys = c.count_work.new.slots.types in
    let ms = c.as_slice.result.now in
    IfOk-weaker c.count_work.result (λ a. solution (all_of (constraints ms)) xs ≡ answer a ys) (λ a. solution (constraint c.args.c.now) xs ≡ answer a ys)
    (λ a h. ap (λ k. solution k xs) (of_all c.args.c.now c.in-All.members ms c.in-All.is c.as_slice.ensures) ∙ h) c.count_work.ensures.value
