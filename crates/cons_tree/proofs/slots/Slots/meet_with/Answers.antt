use Rattle.cons_tree.specs.Environments.{type_at}
use Rattle.cons_tree.proofs.TrailLaws.{meet_is}
use Rattle.cons_tree.proofs.slots.Slots.meet_with.Goals as goal

pub returns-then-is_free : goal.returns-then-is_free
returns-then-is_free c =
    let laws = c.type_laws.ensures in
    meet_is laws.same laws.both (type_at c.args.self.now.types c.args.slot) c.args.ty (c.is_free.ensures c.if-is_free.true c.args.ty)
