-- Sets of integers: at most `MAX_MEMBERS` that are listed, or those of an interval.
use Rattle.std.specs.Prelude.{◌≡◌, ℕ, ◌+◌, ℤ, pos, negsuc, Bool, true, false, ◌&&◌, ◌⊎◌, List, [], ◌∷◌, Option, Some, None, length, filter, nat_lt, refl}
use Rattle.std.specs.Coded.{Coded, Coded-set, code_by, coded×, coded⊎, coded_list, coded_ℤ, coded_bool}
use Rattle.std.proofs.Common.{inl, inr, sym, ap, ◌∙◌, true≢false}
use Rattle.std.specs.Ordering.{int_cmp}
use Rattle.std.specs.List.{list_all}
use Rattle.type_kinds.specs.declared.digits.TheConstants.{MAGNITUDE_LIMIT}
use Rattle.type_kinds_sets.specs.declared.limits.TheConstants.{MAX_MEMBERS}
use Rattle.type_kinds_sets.specs.Ascending.{is_ascending, has_item, merged}
use Rattle.type_kinds_sets.specs.Few.{are_few}
use Rattle.type_kinds_sets.specs.declared.ends.Low.{Low}
use Rattle.type_kinds_sets.specs.declared.ends.Low.TheVariants.{Min, One}
use Rattle.type_kinds_sets.specs.declared.ends.High.{High}
use Rattle.type_kinds_sets.specs.declared.ends.High.TheVariants.{MinusOne, Max}
use Rattle.type_kinds_sets.specs.contracts.ends.Low as low
use Rattle.type_kinds_sets.specs.contracts.ends.High as high
use Rattle.type_kinds_sets.specs.Ends.{in_range, is_range, raised, lowered, lower, higher, low_of, high_of, shrinks}

-- whether the number's magnitude is below the limit
abbrev pub is_narrow : ℤ → Bool
is_narrow (pos n) = nat_lt n MAGNITUDE_LIMIT
is_narrow (negsuc n) = nat_lt (n + 1) MAGNITUDE_LIMIT

-- whether the numbers may be listed: strictly ascending, few, and each below the limit
abbrev pub are_listed : List ℤ → Bool
are_listed xs = is_ascending int_cmp xs && are_few xs && list_all is_narrow xs

-- The family. Each set of integers that it has is had in one way.
pub data Numbers : Type 0 where
  some : (xs : List ℤ) → are_listed xs ≡ true → Numbers
  between : (l : Low) (h : High) → is_range l h ≡ true → Numbers

-- whether the integer is in the set
abbrev pub has : Numbers → ℤ → Bool
has (some xs _) n = has_item int_cmp xs n
has (between l h _) n = in_range l h n

-- each integer of the first set is in the second
abbrev pub Below : Numbers → Numbers → Type 0
Below s t = (n : ℤ) → has s n ≡ true → has t n ≡ true

-- no integer, and every one
abbrev pub none : Numbers
none = some [] refl

abbrev pub all : Numbers
all = between Min Max refl

-- the set of the listed numbers where they may be listed, and else the other set
unfoldable pub or_else : List ℤ → Numbers → Numbers
or_else xs t = elim (are_listed xs) as (λ b. are_listed xs ≡ b → Numbers) [ true ↦ λ e. some xs e | false ↦ λ _. t ] refl

abbrev pub listed : List ℤ → Numbers
listed xs = or_else xs none

-- the integers from one end to the other, of which there may be none
unfoldable pub range : Low → High → Numbers
range l h = elim (is_range l h) as (λ b. is_range l h ≡ b → Numbers) [ true ↦ λ e. between l h e | false ↦ λ _. none ] refl

-- the integers of both sets
unfoldable pub meet : Numbers → Numbers → Numbers
meet (some xs e) t = listed (filter (has t) xs)
meet (between l h e) (some ys f) = listed (filter (in_range l h) ys)
meet (between l h e) (between m k f) = range (raised l m) (lowered h k)

-- of the ends on one side, the one of the smallest interval that has all numbers of a list
abbrev pub outermost : {End : Type 0} → (End → End → End) → (ℤ → End) → End → List ℤ → End
outermost wider nearest narrowest [] = narrowest
outermost wider nearest narrowest (x ∷ xs) = wider (nearest x) (outermost wider nearest narrowest xs)

abbrev pub lowest : List ℤ → Low
lowest xs = outermost lower low_of One xs

abbrev pub highest : List ℤ → High
highest xs = outermost higher high_of MinusOne xs

-- the ends of the smallest interval that contains a set
abbrev pub low_end : Numbers → Low
low_end (some xs _) = lowest xs
low_end (between l h _) = l

abbrev pub high_end : Numbers → High
high_end (some xs _) = highest xs
high_end (between l h _) = h

-- the smallest interval that contains both sets
unfoldable pub hull : Numbers → Numbers → Numbers
hull s t = range (lower (low_end s) (low_end t)) (higher (high_end s) (high_end t))

-- the smallest set of the family that contains both: their numbers where they are few enough to be listed, and else an
-- interval
unfoldable pub join : Numbers → Numbers → Numbers
join (some xs e) (some ys f) = or_else (merged int_cmp xs ys) (hull (some xs e) (some ys f))
join (some xs e) (between m k f) = hull (some xs e) (between m k f)
join (between l h e) t = hull (between l h e) t

-- whether the set has no integer
abbrev pub is_none : Numbers → Bool
is_none (some [] _) = true
is_none (some (x ∷ xs) _) = false
is_none (between l h _) = false

-- the numbers of a set that lists them, and the ends of one that doesn't
abbrev pub members_of : Numbers → Option (List ℤ)
members_of (some xs _) = Some xs
members_of (between l h _) = None

abbrev pub ends_of : Numbers → Option (Low × High)
ends_of (some xs _) = None
ends_of (between l h _) = Some (l, h)

-- how often one can go from the set to a smaller one: a listed set loses a number at a time, and an interval that can't
-- shrink any more still has a listed set of `MAX_MEMBERS` below it
abbrev pub height : Numbers → ℕ
height (some xs _) = length xs
height (between l h _) = MAX_MEMBERS + 1 + shrinks l h

-- ---- how a set is stored: its list, or its ends

pub or_else-yes : (xs : List ℤ) (t : Numbers) (e : are_listed xs ≡ true) → or_else xs t ≡ some xs e
unfolding or_else
or_else-yes xs t e = elim (are_listed xs) as (λ b. (f : are_listed xs ≡ b) → elim b as (λ c. are_listed xs ≡ c → Numbers) [ true ↦ λ g. some xs g | false ↦ λ _. t ] f ≡ some xs e) [
  | true ↦ λ f. ap (some xs) (Coded-set coded_bool (are_listed xs) true f e)
  | false ↦ λ f. absurd (true≢false (sym e ∙ f))
] refl

pub range-yes : (l : Low) (h : High) (e : is_range l h ≡ true) → range l h ≡ between l h e
unfolding range
range-yes l h e = elim (is_range l h) as (λ b. (f : is_range l h ≡ b) → elim b as (λ c. is_range l h ≡ c → Numbers) [ true ↦ λ g. between l h g | false ↦ λ _. none ] f ≡ between l h e) [
  | true ↦ λ f. ap (between l h) (Coded-set coded_bool (is_range l h) true f e)
  | false ↦ λ f. absurd (true≢false (sym e ∙ f))
] refl

abbrev pub parts_of : Numbers → List ℤ ⊎ (Low × High)
parts_of (some xs _) = inl xs
parts_of (between l h _) = inr (l, h)

abbrev pub numbers_from : List ℤ ⊎ (Low × High) → Numbers
numbers_from (inl xs) = listed xs
numbers_from (inr p) = range p.0 p.1

pub numbers_from-parts_of : (s : Numbers) → numbers_from (parts_of s) ≡ s
numbers_from-parts_of (some xs e) = or_else-yes xs none e
numbers_from-parts_of (between l h e) = range-yes l h e

abbrev pub numbers_code : Coded Numbers
numbers_code = code_by (List ℤ ⊎ (Low × High)) (coded⊎ (coded_list coded_ℤ) (coded× (low.the_row).coded (high.the_row).coded)) parts_of numbers_from numbers_from-parts_of
