use Rattle.std.proofs.Common.{refl, ◌∙◌}
use Rattle.type_lattice.specs.Types.{same_type, join}
use Rattle.type_lattice.proofs.TypeLaws.{laws}
use Rattle.type_lattice.proofs.types.Ty.join.Goals as goal

pub returns : goal.returns
unfolding join
returns c =
    let e = same_type c.of_node.result (join c.args.self.now c.args.other.now) (rw (← c.self.view_is, ← c.other.view_is) (c.of_node.ensures ∙ c.in_ok-join.ensures.value)) in
    rw e (record { value = refl; left = laws.join-left _ _; right = laws.join-right _ _; least = laws.join-least _ _ })
