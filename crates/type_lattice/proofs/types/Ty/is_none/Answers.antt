use Rattle.std.proofs.Common.{◌≡◌, refl}
use Rattle.type_lattice.specs.Types.{is_none}
use Rattle.type_lattice.proofs.TypeLaws.{laws}
use Rattle.type_lattice.proofs.types.Ty.is_none.Goals as goal

pub returns : goal.returns
unfolding is_none
returns c =
    let e : c.is_none.result ≡ is_none c.args.self.now = rw (← c.self.view_is) (c.is_none.ensures 4 c.self.invariant) in
    rw e (record { value = refl; empty = laws.is_none-none c.args.self.now })
