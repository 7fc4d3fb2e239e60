-- Lists of types, and what an expression gives: a type for each of its values.
use Rattle.std.specs.Prelude.{ℕ, zero, suc, Bool, true, false, ◌&&◌, cond, List, [], ◌∷◌, Option, Some, None}
use Rattle.type_lattice.specs.Types.{Type4, any, is_none, cons, join}
use Rattle.type_lattice.specs.Inclusion.{is_same}

-- the types of the values of an expression, or that it gives none
abbrev pub Given : Type 0
Given = Option (List Type4)

-- one value of the type, which none hasn't
abbrev pub one : Type4 → Given
one t = cond (is_none t) None (Some (t ∷ []))

-- the one type of a single value
abbrev pub first : List Type4 → Type4
first [] = any
first (t ∷ ts) = t

-- one value of this type
abbrev pub value : Type4 → Given
value t = Some (t ∷ [])

-- the list of these elements and this tail
abbrev pub list_type : List Type4 → Type4 → Type4
list_type [] t = t
list_type (h ∷ hs) t = cons h (list_type hs t) true

-- what follows where values are given
abbrev pub where_given : {A : Type 0} → Given → (List Type4 → List A) → List A
where_given None f = []
where_given (Some ts) f = f ts

-- type by type, up to the shorter list's end
abbrev pub joins : List Type4 → List Type4 → List Type4
joins [] us = []
joins (t ∷ ts) [] = []
joins (t ∷ ts) (u ∷ us) = join t u ∷ joins ts us

-- either of two
abbrev pub either : Given → Given → Given
either None g = g
either (Some ts) None = Some ts
either (Some ts) (Some us) = Some (joins ts us)

-- whether types are the same, one by one
abbrev pub are_same : List Type4 → List Type4 → Bool
are_same [] [] = true
are_same [] (u ∷ us) = false
are_same (t ∷ ts) [] = false
are_same (t ∷ ts) (u ∷ us) = is_same t u && are_same ts us

-- the first n types, and any where there are fewer
abbrev pub as_many : ℕ → List Type4 → List Type4
as_many zero ts = []
as_many (suc n) [] = any ∷ as_many n []
as_many (suc n) (t ∷ ts) = t ∷ as_many n ts
