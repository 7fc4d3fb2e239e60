use Rattle.std.proofs.Common.{arith, sym, subst}
use Rattle.type_lattice.specs.Types.{Below}
use Rattle.cons_tree.proofs.TrailLaws.{at_is, trailed_one}
use Rattle.cons_tree.proofs.slots.Slots.put.Goals as goal

pub returns-in-Ok-clause-trailed : goal.returns-in-Ok-clause-trailed
returns-in-Ok-clause-trailed c =
    let xs = c.args.self.now.types in
    let former = c.replace-former.result in
    let there = at_is xs c.args.slot former c.replace-former.ensures.before in
    trailed_one c.args.self.now _ c.args.slot c.args.ty former c.replace-former.ensures.after c.in-Ok.ensures.ok (omega (arith, c.if-slot-len.false, c.len.ensures)) there
    (subst (Below c.args.ty) (sym there) c.requires.below)
    (λ h. c.requires.smaller (subst (λ t. Below t c.args.ty) there h))
