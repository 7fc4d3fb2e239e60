-- Tables: lists of entries, a key and what is held at it, which ascend strictly by their keys.
use Rattle.std.specs.Prelude.{Bool, cond, List, [], ◌∷◌, Option, Some, None}
use Rattle.std.specs.declared.cmp.Ordering.{Ordering}
use Rattle.std.specs.Ordering.{is_lt, eq_by_cmp}
use Rattle.type_kinds_sets.specs.Ascending.{is_ascending}

abbrev pub keys : {K X : Type 0} → List (K × X) → List K
keys [] = []
keys (e ∷ m) = e.0 ∷ keys m

-- all that is held
abbrev pub held : {K X : Type 0} → List (K × X) → List X
held [] = []
held (e ∷ m) = e.1 ∷ held m

-- f of what is held
abbrev pub mapped : {K X Y : Type 0} → (X → Y) → List (K × X) → List (K × Y)
mapped f [] = []
mapped f (e ∷ m) = (e.0, f e.1) ∷ mapped f m

-- the same is held at each of these keys
abbrev pub all_hold : {K X : Type 0} → List K → X → List (K × X)
all_hold [] x = []
all_hold (k ∷ ks) x = (k, x) ∷ all_hold ks x

-- an entry if there is one
abbrev pub and_entry : {K X : Type 0} → K → Option X → List (K × X) → List (K × X)
and_entry k None m = m
and_entry k (Some x) m = (k, x) ∷ m

-- what f gives for each entry, where it gives something
abbrev pub chosen : {K X Y : Type 0} → (K → X → Option Y) → List (K × X) → List (K × Y)
chosen f [] = []
chosen f (e ∷ m) = and_entry e.0 (f e.0 e.1) (chosen f m)

-- what holds of each of a list, and of each entry
abbrev pub EachOf : {A : Type 0} → (A → Type 0) → List A → Type 0
EachOf Q [] = Unit {0}
EachOf Q (x ∷ xs) = Q x × EachOf Q xs

abbrev pub EachEntry : {K X : Type 0} → (K → X → Type 0) → List (K × X) → Type 0
EachEntry P m = EachOf (λ e. P e.0 e.1) m

-- what two tables hold at one key: what one of them holds, and else both, joined
abbrev pub joined : {X : Type 0} → (X → X → X) → Option X → Option X → Option X
joined j None y = y
joined j (Some x) None = Some x
joined j (Some x) (Some y) = Some (j x y)

-- what is made of both, where both hold something
abbrev pub both_at : {X Y Z : Type 0} → (X → Y → Option Z) → Option X → Option Y → Option Z
both_at m None y = None
both_at m (Some x) None = None
both_at m (Some x) (Some y) = m x y

module _ {K : Type 0} (R : K → K → Ordering) where
  -- whether the keys ascend strictly
  abbrev pub is_table : {X : Type 0} → List (K × X) → Bool
  is_table m = is_ascending R (keys m)

  -- what is held at a key
  abbrev pub find : {X : Type 0} → List (K × X) → K → Option X
  find [] q = None
  find (e ∷ m) q = cond (eq_by_cmp R q e.0) (Some e.1) (find m q)

  -- a table with one more entry: it goes to its position, or is joined with what is held at its key
  abbrev pub put : {X : Type 0} → (X → X → X) → K → X → List (K × X) → List (K × X)
  put j k x [] = (k, x) ∷ []
  put j k x (e ∷ m) = cond (is_lt (R k e.0)) ((k, x) ∷ e ∷ m) (cond (eq_by_cmp R k e.0) ((e.0, j e.1 x) ∷ m) (e ∷ put j k x m))

  -- a table with the entries of a second one
  abbrev pub united : {X : Type 0} → (X → X → X) → List (K × X) → List (K × X) → List (K × X)
  united j m [] = m
  united j m (e ∷ w) = united j (put j e.0 e.1 m) w
