-- Names that are sorted and distinct rise.
use Rattle.std.proofs.Common.{◌≡◌, ℕ, suc, ◌<◌, true, false, List, [], ◌∷◌, length, get_or, refl, sym, ap, ◌∙◌, subst, true≢false, add-one, Less, Equal, Greater, arith}
use Rattle.std.specs.Prelude.{IsSorted}
use Rattle.std.specs.Ordering.{ordering_reverse}
use Rattle.std.specs.List.{IsDistinct}
use Rattle.std.specs.Ordering.{is_lt, is_eq}
use Rattle.std.specs.declared.cmp.Ordering.{Ordering}
use Rattle.std.specs.Cmp.Lexicographic.{texts_ties}
use Rattle.std.proofs.lemmas.Bool.{and_from}
use Rattle.type_kinds.specs.declared.atom.Atom.{Atom}
use Rattle.type_kinds_sets.specs.Names.{name_cmp}
use Rattle.type_kinds_sets.proofs.NameLaws.{name_total}
use Rattle.core_scope.specs.Names.{same_atom}
use Rattle.table_file.specs.Order.{rises, rises_from, is_name_before}

-- two names that differ, and of which the second isn't before the first
next_before : (x y : Atom) → same_atom x y ≡ false → is_name_before y x ≡ false → is_name_before x y ≡ true
next_before x y differ not = by (name_cmp x y) refl
  where
    by : (o : Ordering) → name_cmp x y ≡ o → is_name_before x y ≡ true
    by Less e = ap is_lt e
    by Equal e = absurd (true≢false (sym (texts_ties x y ∙ ap is_eq e) ∙ differ))
    by Greater e = absurd (true≢false (sym (ap is_lt (name_total.antisymm y x ∙ ap ordering_reverse e)) ∙ not))

rises_behind : (x : Atom) (ys : List Atom) → ((k : ℕ) (d : Atom) → suc k < length (x ∷ ys) → is_name_before (get_or (x ∷ ys) (suc k) d) (get_or (x ∷ ys) k d) ≡ false)
    → IsDistinct same_atom (x ∷ ys) → rises_from is_name_before x ys ≡ true
unfolding IsDistinct
rises_behind x [] sorted d = refl
rises_behind x (y ∷ ys) sorted d =
    and_from (is_name_before x y) (rises_from is_name_before y ys) (next_before x y d.0.0 (sorted 0 x (omega arith)))
    (rises_behind y ys (λ k e within. sorted (suc k) e (omega (arith, within))) d.1)

pub sorted_rises : (names : List Atom) → IsSorted name_cmp names → IsDistinct same_atom names → rises is_name_before names ≡ true
sorted_rises [] sorted d = refl
sorted_rises (x ∷ xs) sorted d =
    rises_behind x xs (λ k e within. subst (λ n. is_name_before (get_or (x ∷ xs) n e) (get_or (x ∷ xs) k e) ≡ false) (add-one k) (sorted k e (omega arith) (omega (arith, within)))) d
