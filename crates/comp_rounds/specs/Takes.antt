-- Summaries that fit the functions that they are of.
use Rattle.std.specs.Prelude.{List, [], ◌∷◌}
use Rattle.cons_tree.specs.Callees.{Takes}
use Rattle.cons_tree.specs.declared.parts.Summary.{Summary}
use Rattle.comp_rounds.specs.Rounds.{Function, arity}

-- each function's summary has as many arguments as the function
abbrev pub AllTake : List Function → List Summary → Type 0
AllTake [] [] = Unit {0}
AllTake [] (s ∷ ss) = ⊥
AllTake (g ∷ gs) [] = ⊥
AllTake (g ∷ gs) (s ∷ ss) = Takes s (arity g) × AllTake gs ss
