-- The rule of signatures: none of their types is none, or all are.
use Rattle.std.specs.Prelude.{Bool, cond, not, ◌||◌, List, map}
use Rattle.std.specs.List.{list_any, list_all}
use Rattle.type_lattice.specs.Types.{Type4, none, is_none}

-- whether one of the types is none, and whether all are
abbrev pub has_none : List Type4 → Bool
has_none ts = list_any is_none ts

abbrev pub all_none : List Type4 → Bool
all_none ts = list_all is_none ts

-- whether the types keep the rule
abbrev pub agree : List Type4 → Bool
agree ts = not (has_none ts) || all_none ts

-- the types by the rule: where one is none, all become none
abbrev pub agreed : List Type4 → List Type4
agreed ts = cond (has_none ts) (map (λ t. none) ts) ts
