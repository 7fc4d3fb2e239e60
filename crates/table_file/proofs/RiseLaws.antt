-- Lists that rise, as they are tested and searched.
use Rattle.std.proofs.Common.{◌≡◌, ℕ, suc, ◌+◌, ◌<◌, Bool, true, false, ◌&&◌, List, [], ◌∷◌, ◌++◌, length, get_or, refl, sym, ap, ◌∙◌, ◌-◌, zero, add-one, arith, true≢false, inl, inr}
use Rattle.std.specs.Prelude.{Result, Ok, Err}
use Rattle.std.specs.Result.{is_ok}
use Rattle.std.specs.List.Sorted.{IsSortedBy, IsBinarySearchResult, IsSearchInRange}
use Rattle.std.specs.Ordering.{is_lt, is_eq, eq_by_cmp}
use Rattle.std.specs.declared.cmp.Ordering.{Ordering}
use Rattle.std.specs.declared.cmp.Ordering.TheVariants.{Less, Equal, Greater}
use Rattle.std.proofs.lemmas.Bool.{cases_lt}
use Rattle.std.proofs.lemmas.List.Folds.{list_any_at, list_any_none}
use Rattle.std.proofs.lemmas.List.Sorted.{searchable_from_sorted}
use Rattle.std.proofs.Math.Bool.{and-true}
use Rattle.type_kinds.proofs.Truths.{first, second}
use Rattle.type_kinds_sets.specs.Names.{Name, name_cmp}
use Rattle.type_kinds_sets.proofs.NameLaws.{name_total, name_same}
use Rattle.type_kinds_sets.proofs.AscendingLaws as ascending
use Rattle.table_file.specs.Order.{rises, rises_from, is_name_before, has_name}

-- one more item behind a list that rises
rises_from_behind : {X : Type 0} (before : X → X → Bool) (x : X) (xs : List X) (z d : X)
    → rises_from before x xs ≡ true → rises_from before x (xs ++ z ∷ []) ≡ before (get_or (x ∷ xs) (length xs) d) z
rises_from_behind before x [] z d up = and-true (before x z)
rises_from_behind before x (y ∷ ys) z d up =
    ap (λ b. b && rises_from before y (ys ++ z ∷ [])) (first (before x y) (rises_from before y ys) up)
    ∙ rises_from_behind before y ys z d (second (before x y) (rises_from before y ys) up)

pub rises_behind : {X : Type 0} (before : X → X → Bool) (xs : List X) (z d : X) → 0 < length xs
    → rises before xs ≡ true → rises before (xs ++ z ∷ []) ≡ before (get_or xs (length xs - 1) d) z
rises_behind before [] z d some up = absurd (omega arith)
rises_behind before (x ∷ xs) z d some up = rises_from_behind before x xs z d up
    ∙ ap (λ n. before (get_or (x ∷ xs) n d) z) (omega arith)

-- each stands before the next
rises_from_at : {X : Type 0} (before : X → X → Bool) (x : X) (xs : List X) (k : ℕ) (d : X)
    → rises_from before x xs ≡ true → k < length xs → before (get_or (x ∷ xs) k d) (get_or xs k d) ≡ true
rises_from_at before x [] k d up lt = absurd (omega arith)
rises_from_at before x (y ∷ ys) zero d up lt = first (before x y) (rises_from before y ys) up
rises_from_at before x (y ∷ ys) (suc k) d up lt =
    rises_from_at before y ys k d (second (before x y) (rises_from before y ys) up) (omega arith)

pub rises_at : {X : Type 0} (before : X → X → Bool) (xs : List X) (k : ℕ) (d : X) → rises before xs ≡ true
    → suc k < length xs → before (get_or xs k d) (get_or xs (suc k) d) ≡ true
rises_at before [] k d up lt = absurd (omega arith)
rises_at before (x ∷ xs) k d up lt = rises_from_at before x xs k d up (omega arith)

-- ---- names that rise, searched

sorted : (names : List Name) → rises is_name_before names ≡ true → IsSortedBy (λ a b. is_lt (name_cmp a b)) names
sorted names up k d _ lt =
    elim (is_lt (name_cmp (get_or names (k + 1) d) (get_or names k d))) as
    (λ b. is_lt (name_cmp (get_or names (k + 1) d) (get_or names k d)) ≡ b → b ≡ false) [
      | true ↦ λ e. absurd
          (ascending.below-both_ways name_total name_same (get_or names (k + 1) d) (get_or names k d) e
          (rw add-one (rises_at is_name_before names k d up (omega arith))))
      | false ↦ λ e. refl
    ] refl

found_it : (q y : Name) → name_cmp y q ≡ Equal → eq_by_cmp name_cmp q y ≡ true
found_it q y e = ap (eq_by_cmp name_cmp q) (name_same y q e) ∙ ascending.itself name_total name_same q

tells_equal : (o : Ordering) → is_eq o ≡ true → o ≡ Equal
tells_equal Less e = absurd (true≢false (sym e))
tells_equal Equal e = refl
tells_equal Greater e = absurd (true≢false (sym e))

missed_it : (q y : Name) → (name_cmp y q ≡ Equal → ⊥) → eq_by_cmp name_cmp q y ≡ false
missed_it q y never = elim (eq_by_cmp name_cmp q y) as (λ b. eq_by_cmp name_cmp q y ≡ b → b ≡ false) [
  | true ↦ λ e. let is : q ≡ y = ascending.is_it name_total name_same q y e in
      absurd (never (ap (name_cmp y) is ∙ tells_equal (name_cmp y y) (ascending.itself name_total name_same y)))
  | false ↦ λ e. refl
] refl

pub search_has : (names : List Name) (q : Name) (r : Result ℕ ℕ) → rises is_name_before names ≡ true
    → IsSearchInRange r (length names) → IsBinarySearchResult (λ y. name_cmp y q) names r
    → is_ok r ≡ has_name names q
search_has names q (Ok i) up range at =
    sym (list_any_at (eq_by_cmp name_cmp q) names i q range (found_it q (get_or names i q) (at q)))
search_has names q (Err i) up range part =
    let at = part (searchable_from_sorted name_total (λ y. y) names q (sorted names up)) in
    sym (list_any_none (eq_by_cmp name_cmp q) names (λ k d lt. missed_it q (get_or names k d) (λ e.
    elim (cases_lt k i) [
      | inl below ↦ let is : name_cmp (get_or names k d) q ≡ Less = at.0 k d (omega arith) below in cc
      | inr above ↦ let is : name_cmp (get_or names k d) q ≡ Greater = at.1 k d above lt in cc
    ])))
