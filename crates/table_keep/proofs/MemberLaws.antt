-- Names among names: what a search in rising names finds, and what a name that is there is.
use Rattle.std.proofs.Common.{◌≡◌, ℕ, true, ◌||◌, List, [], ◌∷◌, Contains, length, refl, sym, ap, ◌∙◌, true≢false, inl, inr, subst}
use Rattle.std.specs.Prelude.{Result}
use Rattle.std.specs.Result.{is_ok}
use Rattle.std.specs.List.Sorted.{IsBinarySearchResult, IsSearchInRange}
use Rattle.std.specs.Cmp.Lexicographic.{bytes_decides}
use Rattle.std.specs.Ordering.{eq_by_cmp}
use Rattle.std.proofs.lemmas.Bool.{or_left, or_right, or_cases}
use Rattle.type_kinds.proofs.Lists.{contains_none, contains_first, contains_later, contains_cases}
use Rattle.type_kinds.proofs.Truths.{same_tests}
use Rattle.type_kinds.specs.declared.atom.Atom.{Atom}
use Rattle.type_kinds_sets.specs.Names.{name_cmp}
use Rattle.type_kinds_sets.proofs.NameLaws.{name_total, name_same}
use Rattle.type_kinds_sets.proofs.AscendingLaws as ascending
use Rattle.core_scope.specs.Names.{same_atom}
use Rattle.table_file.specs.Order.{rises, is_name_before, has_name}
use Rattle.table_file.proofs.RiseLaws.{search_has as found_by_name}
use Rattle.table_keep.specs.Groups.{has}

-- ---- two words for one thing

pub has_contained : (names : List Atom) (h : Atom) → has names h ≡ true → Contains names h
has_contained [] h t = absurd (true≢false (sym t))
has_contained (n ∷ names) h t = elim (or_cases (same_atom h n) (has names h) t) [
  | inl here ↦ subst (Contains (n ∷ names)) (sym ((bytes_decides h n).0 here)) (contains_first n names)
  | inr there ↦ contains_later n h names (has_contained names h there)
]

pub contained_has : (names : List Atom) (h : Atom) → Contains names h → has names h ≡ true
contained_has [] h c = absurd (contains_none h c)
contained_has (n ∷ names) h c = elim (contains_cases n h names c) [
  | inl e ↦ or_left (same_atom h n) (has names h) ((bytes_decides h n).1 (sym e))
  | inr there ↦ or_right (same_atom h n) (has names h) (contained_has names h there)
]

same_name_test : (h n : Atom) → eq_by_cmp name_cmp h n ≡ same_atom h n
same_name_test h n = same_tests (eq_by_cmp name_cmp h n) (same_atom h n)
    (λ t. (bytes_decides h n).1 (ascending.is_it name_total name_same h n t))
    (λ t. ap (eq_by_cmp name_cmp h) (sym ((bytes_decides h n).0 t)) ∙ ascending.itself name_total name_same h)

pub has_name_is_has : (names : List Atom) (h : Atom) → has_name names h ≡ has names h
has_name_is_has [] h = refl
has_name_is_has (n ∷ names) h = λ i. same_name_test h n i || has_name_is_has names h i

-- ---- names that rise, searched

pub search_has : (names : List Atom) (q : Atom) (r : Result ℕ ℕ) → rises is_name_before names ≡ true
    → IsSearchInRange r (length names) → IsBinarySearchResult (λ y. name_cmp y q) names r
    → is_ok r ≡ has names q
search_has names q r up range at = found_by_name names q r up range at ∙ has_name_is_has names q
