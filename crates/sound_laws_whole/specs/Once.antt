-- Functions of which no two have one name.
use Rattle.std.specs.Prelude.{◌≡◌, false, List, [], ◌∷◌}
use Rattle.comp_rounds.specs.Rounds.{Function, is_member}

-- no later function has the names of an earlier one
abbrev pub NamedOnce : List Function → Type 0
NamedOnce [] = Unit {0}
NamedOnce (g ∷ gs) = (is_member gs g.home g.name ≡ false) × NamedOnce gs
