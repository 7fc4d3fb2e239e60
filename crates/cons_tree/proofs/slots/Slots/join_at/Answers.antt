use Rattle.std.proofs.Common.{subst, ◌∙◌}
use Rattle.type_lattice.specs.Types.{Below}
use Rattle.cons_tree.specs.Environments.{type_at}
use Rattle.cons_tree.proofs.TrailLaws.{join_is}
use Rattle.cons_tree.proofs.slots.Slots.join_at.Goals as goal

pub returns-then-leq : goal.returns-then-leq
returns-then-leq c =
    let laws = c.type_laws.ensures in
    let t = c.args.ty.now in
    c.in_ok-shared.ensures
    ∙ join_is laws.same laws.left laws.least t (type_at c.args.self.now.types c.args.slot)
    (subst (λ u. Below u t) c.at.ensures (subst (Below c.at.result.now) c.get.ensures (c.leq.ensures.below.0 c.if-leq.true)))
