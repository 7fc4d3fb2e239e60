use Rattle.std.proofs.Common.{sym, ◌∙◌}
use Rattle.cons_tree.proofs.TrailLaws.{at_past}
use Rattle.cons_tree.proofs.slots.Slots.at.Goals as goal

pub returns-in-None : goal.returns-in-None
returns-in-None c = c.args.self.now.is_every ∙ at_past c.args.self.now.types c.args.slot (sym c.in-None.ensures.value)
