-- The bytes of a string as nodes, with labels from n on.
use Rattle.std.specs.Prelude.{ℕ, ◌+◌, pos, List, [], ◌∷◌}
use Rattle.type_kinds.specs.declared.place.Place.{Place}
use Rattle.core_ast.specs.declared.syntax.Literal.TheVariants as l
use Rattle.core_ast.specs.Model as m
use Rattle.core_parse_grammar.specs.Readings.{mark}

abbrev pub labelled_bytes : ℕ → Place → List ℕ → List m.Tree
labelled_bytes n place [] = []
labelled_bytes n place (b ∷ bs) = m.literal (mark n place) (l.Int (pos b)) ∷ labelled_bytes (n + 1) place bs

abbrev pub labelled_byte_patterns : ℕ → Place → List ℕ → List m.Pattern
labelled_byte_patterns n place [] = []
labelled_byte_patterns n place (b ∷ bs) = m.equals (mark n place) (l.Int (pos b)) ∷ labelled_byte_patterns (n + 1) place bs
