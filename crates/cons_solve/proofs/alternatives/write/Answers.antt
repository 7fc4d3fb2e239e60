use Rattle.std.proofs.Common.{sym, subst, ◌∙◌, true≢false}
use Rattle.type_lattice.specs.Types.{Below}
use Rattle.cons_tree.specs.Environments.{type_at}
use Rattle.cons_tree.proofs.TrailLaws.{at_is, trailed_one}
use Rattle.cons_solve.proofs.TurnTrails.{set_same}
use Rattle.cons_solve.proofs.alternatives.write.Goals as goal

pub returns-then-leq-clause-value : goal.returns-then-leq-clause-value
returns-then-leq-clause-value c =
    let xs = c.args.slots.now.types in
    set_same xs c.args.slot c.args.ty
    (c.type_laws.ensures.same c.args.ty (type_at xs c.args.slot) c.requires.below (subst (λ t. Below t c.args.ty) c.at.ensures (subst (Below c.at.result.now) c.get.ensures (c.leq.ensures.below.0 c.if-leq.true))))

pub returns-in-Ok-clause-trailed : goal.returns-in-Ok-clause-trailed
returns-in-Ok-clause-trailed c =
    let xs = c.args.slots.now.types in
    let former = c.replace-former.result in
    let there = at_is xs c.args.slot former c.replace-former.ensures.before in
    trailed_one c.args.slots.now _ c.args.slot c.args.ty former c.replace-former.ensures.after c.in-Ok.ensures.ok c.requires.position there
    (subst (Below c.args.ty) (sym there) c.requires.below)
    (λ h. absurd (true≢false (sym (c.leq.ensures.below.1 (subst (Below c.at.result.now) (sym c.get.ensures) (subst (λ t. Below t c.args.ty) (there ∙ sym c.at.ensures) h))) ∙ c.if-leq.false)))
