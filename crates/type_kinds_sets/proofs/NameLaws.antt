-- The laws of sets of atoms.
use Rattle.std.proofs.Common.{◌≡◌, ◌≤◌, ◌||◌, ◌↔◌, IsTrue, ◌<◌, Bool, true, false, cond, ◌&&◌, List, [], ◌∷◌, length, filter, refl, sym, ap, ◌∙◌, arith, true≢false}
use Rattle.std.specs.Ordering.{eq_by_cmp}
use Rattle.std.specs.Cmp.{IsTotalOrder}
use Rattle.std.specs.Cmp.Lexicographic.{nat_list_cmp_total}
use Rattle.std.specs.FinSet.{IsAntisymmetric, nat_cmp-IsAntisymmetric, slice_cmp-IsAntisymmetric}
use Rattle.std.proofs.lemmas.Bool.{or_right, or_left}
use Rattle.type_kinds_sets.specs.declared.limits.TheConstants.{MAX_MEMBERS}
use Rattle.type_kinds_sets.specs.Ascending.{is_ascending, has_item, merged}
use Rattle.type_kinds_sets.specs.Names.{Name, name_cmp, Names, some, every, are_listed, has, Below, none, or_else, listed, meet, join, is_none, or_else-yes}
use Rattle.type_kinds_sets.proofs.FewLaws.{few-part, few-merged}
use Rattle.type_kinds_sets.proofs.AscendingLaws.{is_it, itself, ascending-filter, ascending-merged, has-filter, has-merged, merged-part, length-filter_le, same-items}

pub name_total : IsTotalOrder name_cmp
name_total = nat_list_cmp_total

pub name_same : IsAntisymmetric name_cmp
name_same = slice_cmp-IsAntisymmetric nat_cmp-IsAntisymmetric

-- ---- what may be listed

pub listed-ascending : (xs : List Name) → are_listed xs ≡ true → is_ascending name_cmp xs ≡ true
listed-ascending xs e = grind arith

pub listed-few : (xs : List Name) → are_listed xs ≡ true → length xs ≤ MAX_MEMBERS
listed-few xs e = grind arith

pub listed-from : (xs : List Name) → is_ascending name_cmp xs ≡ true → length xs ≤ MAX_MEMBERS → are_listed xs ≡ true
listed-from xs a k = grind arith

pub listed-filter : (p : Name → Bool) (xs : List Name) → are_listed xs ≡ true → are_listed (filter p xs) ≡ true
listed-filter p xs e = grind (arith, ascending-filter, length-filter_le, name_total, name_same)

-- two lists together may be listed where they are few enough
pub listed-merged : (xs ys : List Name) → are_listed xs ≡ true → length (merged name_cmp xs ys) ≤ MAX_MEMBERS → are_listed (merged name_cmp xs ys) ≡ true
listed-merged xs ys e k = grind (arith, ascending-merged, name_total, name_same)

pub as_listed : (xs : List Name) → are_listed xs ≡ true → (e : are_listed xs ≡ true) × (listed xs ≡ some xs e)
as_listed xs e = (e, or_else-yes xs none e)

pub or_else-any : (xs : List Name) (t : Names) → are_listed xs ≡ true → or_else xs t ≡ listed xs
or_else-any xs t e = or_else-yes xs t e ∙ sym (or_else-yes xs none e)

pub or_else-no : (xs : List Name) (t : Names) → are_listed xs ≡ false → or_else xs t ≡ t
unfolding or_else
or_else-no xs t e = grind arith

pub some-same : (xs ys : List Name) (e : are_listed xs ≡ true) (f : are_listed ys ≡ true) → xs ≡ ys → some xs e ≡ some ys f
some-same xs ys e f p = sym (or_else-yes xs none e) ∙ ap listed p ∙ or_else-yes ys none f

pub has-listed : (xs : List Name) (t : Names) (q : Name) → are_listed xs ≡ true → has (or_else xs t) q ≡ has_item name_cmp xs q
has-listed xs t q e = ap (λ s. has s q) (or_else-yes xs t e)

pub has-or_else : (xs : List Name) (t : Names) (q : Name) → has (or_else xs t) q ≡ cond (are_listed xs) (has_item name_cmp xs q) (has t q)
unfolding or_else
has-or_else xs t q = grind arith

-- ---- the meet is exact

pub has-meet : (s t : Names) (q : Name) → has (meet s t) q ≡ (has s q && has t q)
unfolding meet
has-meet s t q = grind (arith, has-or_else, listed-filter, has-filter, name_total, name_same)

-- ---- all atoms are more than thirteen

abbrev pub fourteen : List Name
fourteen = (0 ∷ []) ∷ (1 ∷ []) ∷ (2 ∷ []) ∷ (3 ∷ []) ∷ (4 ∷ []) ∷ (5 ∷ []) ∷ (6 ∷ []) ∷ (7 ∷ []) ∷ (8 ∷ []) ∷ (9 ∷ []) ∷ (10 ∷ []) ∷ (11 ∷ []) ∷ (12 ∷ []) ∷ (13 ∷ []) ∷ []

pub not_listed : (xs : List Name) → are_listed xs ≡ true → ((q : Name) → has_item name_cmp xs q ≡ true) → ⊥
not_listed xs e f = true≢false (sym (few-part name_total name_same xs fourteen refl (grind arith) (grind arith) (λ q m. f q)))

-- ---- the join is the least set of the family above both

join-above : (s t : Names) (q : Name) → (has s q || has t q) ≡ true → has (join s t) q ≡ true
unfolding join
join-above s t q h = grind (arith, has-or_else, has-merged, name_total, name_same)

pub join-left : (s t : Names) → Below s (join s t)
join-left s t q h = join-above s t q (or_left (has s q) (has t q) h)

pub join-right : (s t : Names) → Below t (join s t)
join-right s t q h = join-above s t q (or_right (has s q) (has t q) h)

pub join-least : (s t u : Names) → Below s u → Below t u → Below (join s t) u
unfolding join
join-least (some xs e) (some ys f) (some us d) g k q h = grind (arith, has-or_else, few-merged name_total name_same us xs ys, ascending-merged name_total name_same xs ys, merged-part name_total name_same xs ys (has_item name_cmp us) g k q)
join-least (some xs e) (some ys f) every g k q h = refl
join-least (some xs e) every u g k q h = k q refl
join-least every t u g k q h = g q refl

-- the join of two lists has just their atoms, where these are few
pub join-few : (xs ys : List Name) → are_listed xs ≡ true → are_listed ys ≡ true → length (merged name_cmp xs ys) ≤ MAX_MEMBERS → (q : Name)
    → has (join (listed xs) (listed ys)) q ≡ (has_item name_cmp xs q || has_item name_cmp ys q)
unfolding join
join-few xs ys e f few q = grind (arith, as_listed, has-or_else, listed-merged, has-merged, name_total, name_same)

-- and is all where they are many
pub join-many : (xs ys : List Name) → are_listed xs ≡ true → are_listed ys ≡ true → MAX_MEMBERS < length (merged name_cmp xs ys) → join (listed xs) (listed ys) ≡ every
unfolding join or_else
join-many xs ys e f many = grind (arith, as_listed)

-- ---- inclusion is an order

pub below-itself : (s : Names) → Below s s
below-itself s q h = h

pub below-below : (s t u : Names) → Below s t → Below t u → Below s u
below-below s t u f g q h = g q (f q h)

-- sets of the same atoms are equal
pub same_names : (s t : Names) → Below s t → Below t s → s ≡ t
same_names (some xs e) (some ys f) g k = some-same xs ys e f (same-items name_total name_same xs ys (listed-ascending xs e) (listed-ascending ys f) g k)
same_names (some xs e) every g k = absurd (not_listed xs e (λ q. k q refl))
same_names every (some ys f) g k = absurd (not_listed ys f (λ q. g q refl))
same_names every every g k = refl

-- ---- what no atom is in

pub is_none-is : (s : Names) → is_none s ≡ true → s ≡ none
is_none-is (some [] e) h = some-same [] [] e refl refl
is_none-is (some (x ∷ xs) e) h = absurd (true≢false (sym h))
is_none-is every h = absurd (true≢false (sym h))

pub has_some : (s : Names) → is_none s ≡ false → (q : Name) × (has s q ≡ true)
has_some (some [] e) h = absurd (true≢false h)
has_some (some (x ∷ xs) e) h = (x, or_left (eq_by_cmp name_cmp x x) (has_item name_cmp xs x) (itself name_total name_same x))
has_some every h = ([], refl)

-- ---- the set of one atom

pub has-one : (a q : Name) → IsTrue (has (listed (a ∷ [])) q) ↔ (q ≡ a)
has-one a q = grind (arith, has-or_else, is_it, itself, name_total, name_same)

pub ruleset laws = (has-meet, join-left, join-right, join-least, join-few, join-many, same_names, is_none-is, has_some)
