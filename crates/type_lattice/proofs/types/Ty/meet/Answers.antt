use Rattle.std.proofs.Common.{refl, ◌∙◌}
use Rattle.type_lattice.specs.Types.{same_type, meet}
use Rattle.type_lattice.proofs.TypeLaws.{laws}
use Rattle.type_lattice.proofs.types.Ty.meet.Goals as goal

pub returns : goal.returns
unfolding meet
returns c =
    let e = same_type c.of_node.result (meet c.args.self.now c.args.other.now) (rw (← c.self.view_is, ← c.other.view_is) (c.of_node.ensures ∙ c.in_ok-meet.ensures.value)) in
    rw e (record { value = refl; both = laws.meet-both _ _ })
