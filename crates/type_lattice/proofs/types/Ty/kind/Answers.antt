use Rattle.std.proofs.Common.{refl}
use Rattle.type_lattice.specs.Types.{same_type}
use Rattle.type_lattice.specs.declared.kinds.Kind.TheVariants as kind
use Rattle.type_lattice.specs.Kinds.{of_kind}
use Rattle.type_lattice.proofs.KindModels.{kind_only, plain_kind_type}
use Rattle.type_lattice.proofs.types.Ty.kind.Goals as goal

pub returns-in-AnyTuple : goal.returns-in-AnyTuple
unfolding of_kind
returns-in-AnyTuple c = rw (c.every_tuple.ensures, c.in-AnyTuple.is) (record { value = refl; only = kind_only kind.AnyTuple (λ n e. absurd cc) })

pub returns : goal.returns
returns c =
    let e = same_type c.of_plain.result (of_kind c.args.kind) (rw (plain_kind_type c.args.kind c.in_default.not-AnyTuple, ← c.plain_kind.ensures.value) c.of_plain.ensures) in
    rw e (record { value = refl; only = kind_only _ c.plain_kind.ensures.arity })
