-- What the code's set of atoms stands for, by its kinds, and the laws that its functions take.
use Rattle.std.proofs.Common.{ℕ, ◌<◌, ◌+◌, false, Result, IfOk, get_or, take, ◌≡◌, true, None, List, [], ◌∷◌, length, refl, sym, ◌∙◌, arith}
use Rattle.std.proofs.lemmas.List.{take_all}
use Rattle.std.proofs.lemmas.List.Folds.{list_any_at, list_any_more}
use Rattle.std.proofs.lemmas.Result.{IfOk-weaker}
use Rattle.std.specs.Ordering.{eq_by_cmp}
use Rattle.std.proofs.lemmas.Bool.{false_from_ne_true, and_from}
use Rattle.type_kinds.proofs.Truths.{first, second}
use Rattle.type_kinds_sets.specs.Ascending.{has_item}
use Rattle.type_kinds_sets.specs.Names.{Name, Names, name_cmp, some, every, none, listed, has, Below, meet, join, members_of, or_else-yes}
use Rattle.type_kinds_sets.proofs.AscendingLaws.{is_it, itself, all-item, all-from_items, merged-more, merged-longer}
use Rattle.type_kinds_sets.proofs.NameLaws.{name_total, name_same, as_listed, or_else-any, or_else-no, listed-filter, listed-merged, not_listed, has-meet, join-left, join-right, join-least, same_names}

pub as_none : (xs : List Name) → length xs ≡ 0 → listed xs ≡ none
as_none [] h = or_else-yes [] none refl
as_none (x ∷ xs) h = absurd (omega arith)

pub whole-members : (s : Names) → ((q : Name) → has s q ≡ true) → members_of s ≡ None
whole-members (some xs e) h = absurd (not_listed xs e h)
whole-members every h = refl

-- where one set is part of the other
pub meet-below : (s t : Names) → Below s t → meet s t ≡ s
meet-below s t f = same_names (meet s t) s (λ q m. first (has s q) (has t q) (sym (has-meet s t q) ∙ m)) (λ q m. has-meet s t q ∙ and_from (has s q) (has t q) m (f q m))

pub meet-above : (s t : Names) → Below t s → meet s t ≡ t
meet-above s t f = same_names (meet s t) t (λ q m. second (has s q) (has t q) (sym (has-meet s t q) ∙ m)) (λ q m. has-meet s t q ∙ and_from (has s q) (has t q) (f q m) m)

pub join-below : (s t : Names) → Below s t → join s t ≡ t
join-below s t f = same_names (join s t) t (join-least s t t f (λ q m. m)) (join-right s t)

pub join-above : (s t : Names) → Below t s → join s t ≡ s
join-above s t f = same_names (join s t) s (join-least s t s (λ q m. m) f) (join-left s t)

-- membership in the atoms so far
pub not_yet : (xs : List Name) (i : ℕ) (q d : Name) → i < length xs → has_item name_cmp (take i xs) q ≡ false → (q ≡ get_or xs i d → ⊥) → has_item name_cmp (take (i + 1) xs) q ≡ false
not_yet xs i q d h before other = grind (arith, list_any_more (eq_by_cmp name_cmp q) xs i d, false_from_ne_true, is_it, name_total, name_same)

-- what follows from what is known of the value
pub ok_then : {X E : Type 0} (r : Result X E) {P Q : X → Type 0} → IfOk r P → ((x : X) → P x → Q x) → IfOk r Q
ok_then r {P} {Q} h f = IfOk-weaker r P Q f h

-- the lemmas that the functions name
pub ruleset kinds = (as_listed, as_none)

pub ruleset keeps = (listed-filter, take_all)

pub ruleset parts = (as_listed, whole-members, all-item, all-from_items, name_total, name_same)

pub ruleset ones = (is_it, itself, name_total, name_same)

pub ruleset merges = (merged-more, merged-longer, name_total, name_same, listed-merged, or_else-any, or_else-no, take_all)

pub ruleset finds = (list_any_at, not_yet, itself, name_total, name_same, take_all)
