-- Programs of accepted modules.
use Rattle.std.specs.Prelude.{◌≡◌, [], ◌∷◌}
use Rattle.core_scope.specs.Checked.{tree_of}
use Rattle.core_scope.specs.declared.checked.Checked.{Checked}
use Rattle.core_meaning.specs.Programs.{Program}

-- each module of the program is the tree of one that was accepted
abbrev pub AreAccepted : Program → Type 0
AreAccepted [] = Unit {0}
AreAccepted (p ∷ ps) = ((c : Checked) × (tree_of c ≡ p)) × AreAccepted ps
