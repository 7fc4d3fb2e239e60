-- Which values the types of one kind of values have.
use Rattle.std.proofs.Common.{◌≡◌, [], ℕ, ◌<◌, ◌^◌, None, arith}
use Rattle.std.specs.Prelude.{◌↔◌}
use Rattle.type_kinds_sets.specs.Names.{Names}
use Rattle.type_kinds_sets.specs.Numbers.{Numbers}
use Rattle.type_lattice_model.specs.Values.{Value}
use Rattle.type_lattice_model.specs.Shapes.{sizes}
use Rattle.type_lattice.specs.declared.kinds.Kind.{Kind}
use Rattle.type_lattice.specs.declared.kinds.Kind.TheVariants as kind
use Rattle.type_lattice.specs.Types.{HasType, of_atoms, of_ints, every_tuple}
use Rattle.type_lattice.specs.Kinds.{HasAtom, HasInt, IsKind, plain_of_kind, of_kind}

pub atoms_only : (s : Names) (v : Value) → HasType v (of_atoms s) ↔ HasAtom v s
unfolding HasType of_atoms
atoms_only s v = grind arith

pub ints_only : (s : Numbers) (v : Value) → HasType v (of_ints s) ↔ HasInt v s
unfolding HasType of_ints
ints_only s v = grind arith

-- an arity is a number of 32 bits
pub kind_only : (k : Kind) → ((n : ℕ) → k ≡ kind.FunOf n → n < 2 ^ 32) → (v : Value) → HasType v (of_kind k) ↔ IsKind k v
unfolding HasType of_kind every_tuple
kind_only k h v = grind arith

pub plain_kind_type : (k : Kind) → (k ≡ kind.AnyTuple → ⊥) → (of_kind k).ty ≡ record { plain = plain_of_kind k; cell = None; tuples = sizes [] }
unfolding of_kind
plain_kind_type k h = grind arith
