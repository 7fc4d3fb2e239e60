-- Sets of atoms: at most `MAX_MEMBERS` that are listed, or all.
use Rattle.std.proofs.Common.{sym, ap, ◌∙◌, true≢false}
use Rattle.std.specs.Coded.{Coded, Coded-set, code_by, coded_option, coded_list, coded_ℕ, coded_bool}
use Rattle.std.specs.Prelude.{◌≡◌, ℕ, ◌+◌, Bool, true, false, ◌&&◌, List, [], ◌∷◌, Option, Some, None, length, filter, refl}
use Rattle.std.specs.declared.cmp.Ordering.{Ordering}
use Rattle.std.specs.Ordering.{nat_cmp}
use Rattle.std.specs.Cmp.Lexicographic.{slice_cmp}
use Rattle.type_kinds_sets.specs.declared.limits.TheConstants.{MAX_MEMBERS}
use Rattle.type_kinds_sets.specs.Ascending.{is_ascending, has_item, merged}
use Rattle.type_kinds_sets.specs.Few.{are_few}

-- An atom, as its bytes. Atoms are ordered by them, as words are in a dictionary.
abbrev pub Name : Type 0
Name = List ℕ

abbrev pub name_cmp : Name → Name → Ordering
name_cmp = slice_cmp nat_cmp

-- whether the atoms may be listed: strictly ascending, and few
abbrev pub are_listed : List Name → Bool
are_listed xs = is_ascending name_cmp xs && are_few xs

-- The family. Each set of atoms that it has is had in one way.
pub data Names : Type 0 where
  some : (xs : List Name) → are_listed xs ≡ true → Names
  every : Names

-- whether the atom is in the set
abbrev pub has : Names → Name → Bool
has (some xs _) q = has_item name_cmp xs q
has every q = true

-- each atom of the first set is in the second
abbrev pub Below : Names → Names → Type 0
Below s t = (q : Name) → has s q ≡ true → has t q ≡ true

abbrev pub none : Names
none = some [] refl

-- the set of the listed atoms where they may be listed, and else the other set
unfoldable pub or_else : List Name → Names → Names
or_else xs t = elim (are_listed xs) as (λ b. are_listed xs ≡ b → Names) [ true ↦ λ e. some xs e | false ↦ λ _. t ] refl

abbrev pub listed : List Name → Names
listed xs = or_else xs none

-- the atoms of both sets
unfoldable pub meet : Names → Names → Names
meet (some xs e) t = listed (filter (has t) xs)
meet every t = t

-- the smallest set of the family that contains both: their atoms where they are few enough to be listed, and else all
unfoldable pub join : Names → Names → Names
join (some xs e) (some ys f) = or_else (merged name_cmp xs ys) every
join (some xs e) every = every
join every t = every

-- whether the set has no atom
abbrev pub is_none : Names → Bool
is_none (some [] _) = true
is_none (some (x ∷ xs) _) = false
is_none every = false

-- the atoms of a set that lists them
abbrev pub members_of : Names → Option (List Name)
members_of (some xs _) = Some xs
members_of every = None

-- how often one can go from the set to a smaller one
abbrev pub height : Names → ℕ
height (some xs _) = length xs
height every = MAX_MEMBERS + 1

-- ---- how a set is stored: its list, if it has one

pub or_else-yes : (xs : List Name) (t : Names) (e : are_listed xs ≡ true) → or_else xs t ≡ some xs e
unfolding or_else
or_else-yes xs t e = elim (are_listed xs) as (λ b. (f : are_listed xs ≡ b) → elim b as (λ c. are_listed xs ≡ c → Names) [ true ↦ λ g. some xs g | false ↦ λ _. t ] f ≡ some xs e) [
  | true ↦ λ f. ap (some xs) (Coded-set coded_bool (are_listed xs) true f e)
  | false ↦ λ f. absurd (true≢false (sym e ∙ f))
] refl

abbrev pub names_from : Option (List Name) → Names
names_from (Some xs) = listed xs
names_from None = every

pub names_from-members_of : (s : Names) → names_from (members_of s) ≡ s
names_from-members_of (some xs e) = or_else-yes xs none e
names_from-members_of every = refl

abbrev pub names_code : Coded Names
names_code = code_by (Option (List Name)) (coded_option (coded_list (coded_list coded_ℕ))) members_of names_from names_from-members_of
