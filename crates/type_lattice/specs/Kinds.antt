-- Types of one kind of values, and which values these are.
use Rattle.std.specs.Prelude.{◌≡◌, ℕ, ◌%◌, ◌^◌, Bool, true, false, cond, nat_lt, length, refl}
use Rattle.type_kinds_sets.specs.Names as names
use Rattle.type_kinds_sets.specs.Names.{Names}
use Rattle.type_kinds_sets.specs.Numbers as numbers
use Rattle.type_kinds_sets.specs.Numbers.{Numbers}
use Rattle.type_kinds_sets.specs.declared.bits.Bits.{Bits}
use Rattle.type_kinds_sets.specs.declared.bits.Bits.TheVariants.{No, Whole, Any}
use Rattle.type_lattice_model.specs.Values.{Value, int, atom, bits, float, pid, port, reference, nil, tuple, map, closure, external, foreign}
use Rattle.type_lattice_model.specs.Shapes.{Flags, Functions, no_function, of_arity, all_functions, PlainParts}
use Rattle.type_lattice_model.specs.Operations.{no_flags}
use Rattle.type_lattice_model.specs.Normal.{NormalFunctions}
use Rattle.type_lattice.specs.declared.kinds.Kind.{Kind}
use Rattle.type_lattice.specs.declared.kinds.Kind.TheVariants as kind
use Rattle.type_lattice.specs.declared.kinds.Ends.{Ends}
use Rattle.type_lattice.specs.declared.kinds.Ends.TheVariants as ends
use Rattle.type_lattice.specs.Types.{Type4, of_plain, every_tuple}

-- the value is an atom of the set, or an integer of it
abbrev pub HasAtom : Value → Names → Type 0
HasAtom (atom a) s = names.has s a ≡ true
HasAtom v s = ⊥

abbrev pub HasInt : Value → Numbers → Type 0
HasInt (int n) s = numbers.has s n ≡ true
HasInt v s = ⊥

-- whether the value is a function, and which arity it has
abbrev pub IsFunction : Value → Type 0
IsFunction (closure m l n env) = Unit {0}
IsFunction (external m f n) = Unit {0}
IsFunction (foreign x n) = Unit {0}
IsFunction v = ⊥

abbrev pub HasArity : Value → ℕ → Type 0
HasArity (closure m l n env) k = n ≡ k
HasArity (external m f n) k = n ≡ k
HasArity (foreign x n) k = n ≡ k
HasArity v k = ⊥

-- which values are of a kind
abbrev pub IsKind : Kind → Value → Type 0
IsKind kind.Float (float s) = Unit {0}
IsKind kind.Binary (bits bs) = length bs % 8 ≡ 0
IsKind kind.Bitstring (bits bs) = Unit {0}
IsKind kind.Pid (pid n) = Unit {0}
IsKind kind.Port (port n) = Unit {0}
IsKind kind.Reference (reference n) = Unit {0}
IsKind kind.Map (map ps) = Unit {0}
IsKind kind.AnyFun v = IsFunction v
IsKind (kind.FunOf k) v = HasArity v k
IsKind kind.Nil nil = Unit {0}
IsKind kind.AnyTuple (tuple vs) = Unit {0}
IsKind k v = ⊥

-- the plain parts of a type of the kind
abbrev pub flags_of_kind : Kind → Flags
flags_of_kind kind.Float = record { float = true; pid = false; port = false; reference = false; nil = false; map = false }
flags_of_kind kind.Pid = record { float = false; pid = true; port = false; reference = false; nil = false; map = false }
flags_of_kind kind.Port = record { float = false; pid = false; port = true; reference = false; nil = false; map = false }
flags_of_kind kind.Reference = record { float = false; pid = false; port = false; reference = true; nil = false; map = false }
flags_of_kind kind.Map = record { float = false; pid = false; port = false; reference = false; nil = false; map = true }
flags_of_kind kind.Nil = record { float = false; pid = false; port = false; reference = false; nil = true; map = false }
flags_of_kind k = no_flags

abbrev pub functions_of_kind : Kind → Functions
functions_of_kind kind.AnyFun = all_functions
functions_of_kind (kind.FunOf n) = cond (nat_lt n (2 ^ 32)) (of_arity n) no_function
functions_of_kind k = no_function

abbrev pub bits_of_kind : Kind → Bits
bits_of_kind kind.Binary = Whole
bits_of_kind kind.Bitstring = Any
bits_of_kind k = No

abbrev pub plain_of_kind : Kind → PlainParts
plain_of_kind k = record { atoms = names.none; ints = numbers.none; bits = bits_of_kind k; flags = flags_of_kind k; functions = functions_of_kind k }

pub kind_normal : (k : Kind) → NormalFunctions (functions_of_kind k)
kind_normal kind.AnyFun = tt
kind_normal (kind.FunOf n) = elim (nat_lt n (2 ^ 32)) as (λ b. nat_lt n (2 ^ 32) ≡ b → NormalFunctions (cond b (of_arity n) no_function)) [ true ↦ λ e. e | false ↦ λ e. tt ] refl
kind_normal k = tt

-- the type of the values of a kind
unfoldable pub of_kind : Kind → Type4
of_kind kind.AnyTuple = every_tuple
of_kind k = of_plain (plain_of_kind k) (kind_normal k)

-- whether proper ends are asked for
abbrev pub asks_proper : Ends → Bool
asks_proper ends.Proper = true
asks_proper ends.Free = false
