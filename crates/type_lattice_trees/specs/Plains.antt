-- What the code's plain parts stand for, and how they are stored.
use Rattle.std.specs.Prelude.{◌≡◌, ℕ, Bool, true, false, ◌⊎◌, refl}
use Rattle.std.proofs.Common.{inl, inr}
use Rattle.std.specs.Coded.{Coded, code_by, coded×, coded⊎, coded_ℕ, coded_bool}
use Rattle.type_kinds_sets.specs.Names.{Names, names_code}
use Rattle.type_kinds_sets.specs.Numbers.{Numbers, numbers_code}
use Rattle.type_kinds_sets.specs.declared.bits.Bits.{Bits}
use Rattle.type_kinds_sets.specs.contracts.bits.Bits as bits
use Rattle.type_lattice_model.specs.Shapes.{Flags, Functions, no_function, of_arity, all_functions, PlainParts}
use Rattle.type_lattice_trees.specs.declared.plain.FlagSet.{FlagSet}
use Rattle.type_lattice_trees.specs.declared.plain.FunSet.{FunSet}
use Rattle.type_lattice_trees.specs.declared.plain.FunSet.TheVariants as fun

abbrev pub flags_of : FlagSet → Flags
flags_of k = record { float = k.float; pid = k.pid; port = k.port; reference = k.reference; nil = k.nil; map = k.map }

abbrev pub functions_of : FunSet → Functions
functions_of fun.Nothing = no_function
functions_of (fun.OfArity n) = of_arity n
functions_of fun.Every = all_functions

abbrev flags_code : Coded Flags
flags_code = code_by (Bool × (Bool × (Bool × (Bool × (Bool × Bool))))) (coded× coded_bool (coded× coded_bool (coded× coded_bool (coded× coded_bool (coded× coded_bool coded_bool)))))
    (λ k. (k.float, (k.pid, (k.port, (k.reference, (k.nil, k.map)))))) (λ t. record { float = t.0; pid = t.1.0; port = t.1.1.0; reference = t.1.1.1.0; nil = t.1.1.1.1.0; map = t.1.1.1.1.1 }) (λ _. refl)

abbrev functions_apart : Functions → Bool ⊎ ℕ
functions_apart no_function = inl false
functions_apart (of_arity n) = inr n
functions_apart all_functions = inl true

abbrev functions_from : Bool ⊎ ℕ → Functions
functions_from (inl false) = no_function
functions_from (inl true) = all_functions
functions_from (inr n) = of_arity n

pub functions_back : (f : Functions) → functions_from (functions_apart f) ≡ f
functions_back no_function = refl
functions_back (of_arity n) = refl
functions_back all_functions = refl

abbrev functions_code : Coded Functions
functions_code = code_by (Bool ⊎ ℕ) (coded⊎ coded_bool coded_ℕ) functions_apart functions_from functions_back

abbrev pub plain_code : Coded PlainParts
plain_code =
    code_by (Names × (Numbers × (Bits × (Flags × Functions)))) (coded× names_code (coded× numbers_code (coded× (bits.the_row).coded (coded× flags_code functions_code)))) (λ p. (p.atoms, (p.ints, (p.bits, (p.flags, p.functions)))))
    (λ t. record { atoms = t.0; ints = t.1.0; bits = t.1.1.0; flags = t.1.1.1.0; functions = t.1.1.1.1 }) (λ _. refl)
