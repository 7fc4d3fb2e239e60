use Rattle.std.proofs.Common.{subst}
use Rattle.type_lattice.specs.Types.{Below}
use Rattle.cons_tree.specs.Environments.{type_at}
use Rattle.cons_tree.proofs.TrailLaws.{meet_is}
use Rattle.cons_tree.proofs.slots.Slots.meet_at.Goals as goal

pub returns-then-leq : goal.returns-then-leq
returns-then-leq c =
    let laws = c.type_laws.ensures in
    meet_is laws.same laws.both (type_at c.args.self.now.types c.args.slot) c.args.ty
    (subst (Below c.args.ty) c.at.ensures (subst (λ u. Below u c.at.result.now) c.get.ensures (c.leq.ensures.below.0 c.if-leq.true)))
