use Rattle.std.proofs.Common.{subst}
use Rattle.type_lattice.specs.Types.{Below, HasType}
use Rattle.cons_tree.proofs.slots.Slots.is_free.Goals as goal

pub returns : goal.returns
returns c = λ yes t v h. subst (HasType v) c.at.ensures (subst (λ e. Below e c.at.result.now) c.args.self.now.is_every (c.leq.ensures.below.0 yes) v (c.type_laws.ensures.every v))
