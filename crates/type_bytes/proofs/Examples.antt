-- The bytes of some types, as the definition computes them.
use Rattle.std.proofs.Common.{◌≡◌, [], ◌∷◌, None, refl, pos, codes}
use Rattle.type_kinds_sets.specs.Names as names
use Rattle.type_kinds_sets.specs.Numbers as numbers
use Rattle.type_kinds_sets.specs.declared.bits.Bits.TheVariants.{No}
use Rattle.type_lattice_model.specs.Shapes.{no_function, tags, sizes, TypeAt}
use Rattle.type_lattice_model.specs.Operations.{ops, no_flags, plain_none, of_plain}
use Rattle.type_bytes.specs.Spelling.{two_bytes, four_bytes, int_bytes, bytes_at}

-- 'ok' | 1
abbrev pub ok_or_one : TypeAt 4
ok_or_one = of_plain (ops 3) (record { atoms = names.some (codes "ok" ∷ []) refl; ints = numbers.some (pos 1 ∷ []) refl; bits = No; flags = no_flags; functions = no_function })

pub ok_or_one_bytes : bytes_at 4 ok_or_one ≡ 2 ∷ 0 ∷ 3 ∷ 1 ∷ 0 ∷ 0 ∷ 0 ∷ 2 ∷ 111 ∷ 107 ∷ 1 ∷ 0 ∷ 0 ∷ 0 ∷ 0 ∷ 0 ∷ 0 ∷ 0 ∷ 0 ∷ 0 ∷ 0 ∷ 0 ∷ 0 ∷ 0 ∷ 0 ∷ 0 ∷ 1 ∷ []
unfolding ops two_bytes four_bytes int_bytes
ok_or_one_bytes = refl

-- {'error',integer()} | {'ok',any()}
abbrev pub integers : TypeAt 3
integers = of_plain (ops 2) (record { atoms = names.none; ints = numbers.all; bits = No; flags = no_flags; functions = no_function })

abbrev pub answers : TypeAt 4
answers = record { plain = plain_none; cell = None; tuples = sizes ((2, tags ((codes "error", integers ∷ []) ∷ (codes "ok", (ops 3).any ∷ []) ∷ [])) ∷ []) }

pub answers_bytes : bytes_at 4 answers ≡ 2 ∷ 4 ∷ 0 ∷ 1 ∷ 2 ∷ 2 ∷ 0 ∷ 0 ∷ 0 ∷ 5 ∷ 101 ∷ 114 ∷ 114 ∷ 111 ∷ 114 ∷ 2 ∷ 0 ∷ 2 ∷ 131 ∷ 0 ∷ 0 ∷ 0 ∷ 2 ∷ 111 ∷ 107 ∷ 1 ∷ []
unfolding ops two_bytes four_bytes int_bytes
answers_bytes = refl
