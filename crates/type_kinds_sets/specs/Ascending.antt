-- Lists that rise strictly: one list for each finite set, in an order of its items.
use Rattle.std.specs.Prelude.{Bool, true, cond, ◌&&◌, List, [], ◌∷◌}
use Rattle.std.specs.declared.cmp.Ordering.{Ordering}
use Rattle.std.specs.Ordering.{is_lt, eq_by_cmp}
use Rattle.std.specs.List.{list_any, list_all}

module _ {K : Type 0} (R : K → K → Ordering) where
  -- whether the item stands below each one of the list
  abbrev pub is_below_all : K → List K → Bool
  is_below_all x ys = list_all (λ y. is_lt (R x y)) ys

  -- whether each item stands below all that come after it
  abbrev pub is_ascending : List K → Bool
  is_ascending [] = true
  is_ascending (x ∷ xs) = is_below_all x xs && is_ascending xs

  -- whether the item is in the list
  abbrev pub has_item : List K → K → Bool
  has_item xs q = list_any (eq_by_cmp R q) xs

  -- an ascending list with one more item, which goes to its position, or is there already
  abbrev pub placed : K → List K → List K
  placed x [] = x ∷ []
  placed x (y ∷ ys) = cond (is_lt (R x y)) (x ∷ y ∷ ys) (cond (eq_by_cmp R x y) (y ∷ ys) (y ∷ placed x ys))

  -- an ascending list with the items of a second list
  abbrev pub merged : List K → List K → List K
  merged xs [] = xs
  merged xs (y ∷ ys) = merged (placed y xs) ys
