-- Lists that rise: each item stands before the next one. Names go by their bytes, functions by name and then by arity.
use Rattle.std.specs.Prelude.{Bool, true, false, ◌&&◌, nat_lt, List, [], ◌∷◌}
use Rattle.std.specs.declared.cmp.Ordering.{Ordering}
use Rattle.std.specs.declared.cmp.Ordering.TheVariants.{Less, Equal, Greater}
use Rattle.std.specs.Ordering.{is_lt}
use Rattle.type_kinds_sets.specs.Ascending.{has_item}
use Rattle.type_kinds_sets.specs.Names.{Name, name_cmp}
use Rattle.core_ast.specs.declared.syntax.FunName.{FunName}

-- whether the item stands before the first of the list, and each of the list before the next one
abbrev pub rises_from : {X : Type 0} → (X → X → Bool) → X → List X → Bool
rises_from before x [] = true
rises_from before x (y ∷ ys) = before x y && rises_from before y ys

-- whether each item of the list stands before the next one
abbrev pub rises : {X : Type 0} → (X → X → Bool) → List X → Bool
rises before [] = true
rises before (x ∷ xs) = rises_from before x xs

-- what two orders say together: the second is asked where the first finds no difference
abbrev pub by_first : Ordering → Bool → Bool
by_first Less b = true
by_first Equal b = b
by_first Greater b = false

abbrev pub is_name_before : Name → Name → Bool
is_name_before a b = is_lt (name_cmp a b)

abbrev pub is_function_before : FunName → FunName → Bool
is_function_before f g = by_first (name_cmp f.name g.name) (nat_lt f.arity g.arity)

-- whether the name is one of the list
abbrev pub has_name : List Name → Name → Bool
has_name names q = has_item name_cmp names q
